-- Who runs, or why nobody does.
use Rattle.std.specs.Prelude.{ℕ, ◌==◌, ◌&&◌, ◌||◌, Bool, true, false, not, if◌then◌else◌, is_some, List, [], ◌∷◌, codes, decimal}
use Rattle.std.specs.List.{list_all}
use Rattle.byte_streams.specs.Pieces.{joined}
use Rattle.tripos_machine.specs.State.{State}
use Rattle.tripos_machine.specs.State.State.{Bare, Full}
use Rattle.kernel_model.specs.KernelRecord.Between.{is_empty_queue}
use Rattle.kernel_model.specs.KernelRecord.Lists.{Lists}
use Rattle.kernel_model.specs.KernelRecord.Task.{Task}
use Rattle.kernel_model.specs.KernelRecord.ValidTasks.{dead}

-- whether a list has a member
abbrev pub has_member : {X : Type 0} → List X → Bool
has_member [] = false
has_member (x ∷ xs) = true

-- whether a task is dead: its function has returned
abbrev pub is_dead : Task → Bool
is_dead t = t.field == dead

-- whether a key is still to come, or one is typed ahead; a machine without a kernel has no keyboard
abbrev pub has_keys : State → Bool
has_keys (Bare m) = false
has_keys (Full k) = has_member k.keys || has_member k.type_ahead

-- Whether a device can still send a packet back, where it is known whether keys will come.
abbrev pub can_answer : Lists → Bool → Bool
can_answer l keys = not (is_empty_queue l.clock) || not (is_empty_queue l.output) || (not (is_empty_queue l.keyboard) && keys)

-- why nobody runs
unfoldable pub idle_words : Lists → Bool → List ℕ
idle_words l keys =
    if not (has_member l.tasks) then codes "there is no task" else
    if list_all is_dead l.tasks then codes "all tasks are dead" else
    if not (can_answer l keys) then codes "nothing can ever come" else
    codes "all wait, are held or are dead"

-- that nobody runs, and why
abbrev pub idle_line : Lists → Bool → List ℕ
idle_line l keys = joined (codes "nobody runs: " ∷ idle_words l keys ∷ codes "\n" ∷ [])

-- that a task runs, or ran last where the machine has stopped
abbrev pub running_line : ℕ → Bool → List ℕ
running_line id stopped = joined (codes "task " ∷ decimal id ∷ (if stopped then codes " ran last\n" else codes " runs\n") ∷ [])

-- who runs, where it is known whether the machine has stopped and whether keys will come
abbrev pub runner_line : Lists → Bool → Bool → List ℕ
runner_line l stopped keys = if l.running == 0 then idle_line l keys else running_line l.running stopped

-- a machine without a kernel has no tasks
abbrev pub runner_text : State → List ℕ
runner_text (Bare m) = []
runner_text (Full k) = runner_line k.lists (is_some k.stop) (has_keys (Full k))
