-- The tasks of the chain, a line for each.
use Rattle.std.specs.Prelude.{ℕ, ◌+◌, ◌%◌, ◌==◌, Bool, true, false, not, if◌then◌else◌, List, [], ◌∷◌, codes, decimal, slice_index}
use Rattle.std.specs.List.{flat_map}
use Rattle.byte_streams.specs.Pieces.{joined}
use Rattle.kernel_lists.specs.TaskBlock.TaskChain.{id_in, priority_in, tasks_in}
use Rattle.kernel_lists.specs.TaskBlock.TaskWords.{word_index}
use Rattle.kernel_lists.specs.declared.task_block.fields.TcbField.TheVariants.{State}
use Rattle.kernel_model.specs.KernelRecord.Between.{is_empty_queue}
use Rattle.kernel_model.specs.KernelRecord.Task.{Task, field_of_state, is_held_state}
use Rattle.kernel_model.specs.KernelRecord.ValidTasks.{interrupted, runs, waits}
use Rattle.shell.specs.ShellListings.Columns.{right_in}

-- the word of a task's state, without its marks: it runs, it waits, it was interrupted, it is dead
abbrev pub field_name : ℕ → List ℕ
field_name field =
    if field == runs then codes "run" else
    if field == waits then codes "wait" else
    if field == interrupted then codes "int" else
    codes "dead"

-- a mark, where it is set
abbrev pub mark : List ℕ → Bool → List ℕ
mark text true = text
mark text false = []

-- the text of a state: its word, and the marks that packets wait, and that the task is held
abbrev pub state_text : ℕ → Bool → Bool → List ℕ
state_text field waiting held = joined (field_name field ∷ mark (codes " pkt") waiting ∷ mark (codes " held") held ∷ [])

-- the line with a task's number, its priority, and the text of its state
abbrev pub line_with : ℕ → ℕ → List ℕ → List ℕ
line_with id priority state = joined (right_in 3 (decimal id) ∷ codes " " ∷ right_in 5 (decimal priority) ∷ codes " " ∷ state ∷ codes "\n" ∷ [])

-- the line of a task
abbrev pub task_line : Task → List ℕ
task_line t = line_with t.id t.priority (state_text t.field (not (is_empty_queue t.queue)) t.held)

-- the lines of all of these tasks
unfoldable pub task_lines : List Task → List ℕ
task_lines ts = flat_map task_line ts

-- a line has at most so many bytes
abbrev pub most_in_task_line : ℕ
most_in_task_line = 36

-- the lines of all tasks, at most 64, have at most so many bytes
abbrev pub most_in_tasks : ℕ
most_in_tasks = 2304

-- ---- the same, as the words of a store say

-- the bit of a state by which packets wait for the task
abbrev pub has_packets : ℕ → Bool
has_packets w = w % 2 == 1

-- the line of a task, by its number, its priority and the word of its state
abbrev pub line_of_words : ℕ → ℕ → ℕ → List ℕ
line_of_words id priority state = line_with id priority (state_text (field_of_state state) (has_packets state) (is_held_state state))

-- the line of the task block at t
abbrev pub task_line_at : List ℕ → ℕ → List ℕ
task_line_at s t = line_of_words (id_in s t) (priority_in s t) (slice_index s (t + word_index State))

-- the lines of all tasks of the chain, as the words of a store say
unfoldable pub task_lines_in : List ℕ → List ℕ
task_lines_in s = flat_map (task_line_at s) (tasks_in s)
