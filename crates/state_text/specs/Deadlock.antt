-- Tasks that wait or are held, where no step of any task can end it.
use Rattle.std.specs.Prelude.{◌≡◌, ℕ, ◌==◌, ◌&&◌, ◌||◌, Bool, false, not, if◌then◌else◌, List, [], ◌∷◌, codes, decimal}
use Rattle.std.specs.List.{flat_map, list_any}
use Rattle.byte_streams.specs.Pieces.{joined}
use Rattle.kernel_devices.specs.Tick.{with_tick}
use Rattle.kernel_machine.specs.KernelSteps.Stepped.{Stepped}
use Rattle.kernel_model.specs.KernelRecord.Between.{is_ready}
use Rattle.kernel_model.specs.KernelRecord.Kernel.{Kernel}
use Rattle.kernel_model.specs.KernelRecord.Lists.{Lists}
use Rattle.kernel_model.specs.KernelRecord.Task.{Task, is_guest_id}
use Rattle.state_text.specs.Runner.{can_answer, has_keys}
use Rattle.state_text.specs.TaskTexts.{awaits_packet}
use Rattle.tripos_machine.specs.State.{State}
use Rattle.tripos_machine.specs.State.State.{Bare, Full}

-- ---- when nothing more happens

-- Nobody runs, and no device can send a packet back, where it is known whether keys will come.
abbrev pub is_still : Lists → Bool → Bool
is_still l keys = (l.running == 0) && not (can_answer l keys)

-- What some steps leave of a kernel in which nothing happens but that the clock ticks and keys come in which no packet awaits.
pub record LeavesStill (k : Kernel) (x : Stepped) : Type 0 where
  -- its lists are as they were, but for the ticks
  pub lists : x.kernel.lists ≡ with_tick x.kernel.lists.tick k.lists
  -- nothing is written
  pub bytes : x.bytes ≡ []
  -- no packet is sent or taken, and no task runs
  pub events : x.events ≡ []

-- ---- the tasks that this leaves as they are

-- A guest waits, and no packet has come. A resident that waits has nothing to do.
abbrev pub is_waiting : Task → Bool
is_waiting t = is_guest_id t.id && awaits_packet t

-- a task would go on, were it not held
abbrev pub is_held_up : Task → Bool
is_held_up t = t.held && is_ready (record t { held = false })

-- a task waits or is held, and goes on only by what another one does
abbrev pub is_stuck : Task → Bool
is_stuck t = is_waiting t || is_held_up t

-- whether two members of a list or more pass a test
abbrev pub two_pass : {X : Type 0} → (X → Bool) → List X → Bool
two_pass test [] = false
two_pass test (x ∷ xs) = if test x then list_any test xs else two_pass test xs

-- ---- in words

-- a task by its number, and what it does
abbrev pub task_words : ℕ → List ℕ → List ℕ
task_words id text = joined (codes "; task " ∷ decimal id ∷ text ∷ [])

-- a task that is stuck, and why
abbrev pub stuck_words : Task → List ℕ
stuck_words t =
    if is_waiting t then task_words t.id (codes " waits") else
    if is_held_up t then task_words t.id (codes " is held") else
    []

-- It is a deadlock where two tasks wait, or more: one task alone waits for no step of its own.
abbrev pub deadlock_front : List Task → List ℕ
deadlock_front ts = if two_pass is_waiting ts then codes "deadlock: no step of any task can end it" else codes "for ever: no step of any task can end it"

-- the tasks that are stuck, in the order of the chain
abbrev pub deadlock_line : List Task → List ℕ
deadlock_line ts = joined (deadlock_front ts ∷ flat_map stuck_words ts ∷ codes "\n" ∷ [])

-- the line, where a task is stuck
abbrev pub stuck_text : List Task → List ℕ
stuck_text ts = if list_any is_stuck ts then deadlock_line ts else []

-- that text, where no device can send a packet back
abbrev pub unanswered_text : Lists → Bool → List ℕ
unanswered_text l keys = if not (can_answer l keys) then stuck_text l.tasks else []

-- that text, where nothing more happens
abbrev pub still_text : Lists → Bool → List ℕ
still_text l keys = if is_still l keys then stuck_text l.tasks else []

-- a machine without a kernel has no tasks
abbrev pub deadlock_text : State → List ℕ
deadlock_text (Bare m) = []
deadlock_text (Full k) = still_text k.lists (has_keys (Full k))
