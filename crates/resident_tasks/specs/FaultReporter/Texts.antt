-- What is reported of the faults of tasks: a line for each fault that was not reported yet, in the order of the chain.
use Rattle.std.specs.Prelude.{ℕ, ◌+◌, ◌&&◌, Bool, if◌then◌else◌, List, [], ◌∷◌, codes, decimal, nat_le, nat_lt, slice_index}
use Rattle.std.specs.List.{flat_map}
use Rattle.kernel_lists.specs.TaskBlock.TaskChain.{tasks_in}
use Rattle.byte_streams.specs.Pieces.{joined}
use Rattle.kernel_model.specs.KernelRecord.Between.{is_unreported}
use Rattle.kernel_model.specs.KernelRecord.Lists.{Lists}
use Rattle.kernel_model.specs.KernelRecord.Task.{Task}
use Rattle.kernel_lists.specs.TaskBlock.TaskWords.{word_index}
use Rattle.kernel_lists.specs.declared.task_block.fields.TcbField.TheVariants.{Id}
use Rattle.kernel_model.specs.declared.kernel_record.numbers.TheConstants.{FAULT_ADDRESS, FAULT_WORD}

-- the line of a task with a fault at an address
abbrev pub report : ℕ → ℕ → ℕ → List ℕ
report id fault address = joined (codes "Task " ∷ decimal id ∷ codes " fault " ∷ decimal fault ∷ codes " at " ∷ decimal address ∷ codes "\n" ∷ [])

-- the line of a task whose fault was not reported yet; no bytes for any other task
abbrev pub report_of : Task → List ℕ
report_of t = if is_unreported t then report t.id t.fault t.fault_address else []

-- the lines of all tasks
unfoldable pub reports : Lists → List ℕ
reports l = flat_map report_of l.tasks

-- a line has at most so many bytes: its words, and three numbers of at most 10 digits
abbrev pub most_in_line : ℕ
most_in_line = 47

-- all lines have at most so many bytes
abbrev pub most_reported : ℕ
most_reported = 3008

-- ---- the same, as the words of a store say

-- a fault word says of a fault that it was not reported
abbrev pub is_unreported_word : ℕ → Bool
is_unreported_word w = nat_le 1 w && nat_lt w 256

-- the line of the task block at t
abbrev pub report_at : List ℕ → ℕ → List ℕ
report_at s t =
    if is_unreported_word (slice_index s (t + word_index FAULT_WORD))
    then report (slice_index s (t + word_index Id)) (slice_index s (t + word_index FAULT_WORD)) (slice_index s (t + word_index FAULT_ADDRESS))
    else []

-- the lines of all tasks, as the words of a store say
unfoldable pub reports_in : List ℕ → List ℕ
reports_in s = flat_map (report_at s) (tasks_in s)
