-- Where the links of all lists of a store end, in the order in which their words are claimed.
use Rattle.std.specs.Prelude.{◌≡◌, ℕ, true, List}
use Rattle.std.specs.List.{AllByRecursion}
use Rattle.kernel_lists.specs.LinkedList.Chain.{IsChain}
use Rattle.kernel_lists.specs.PacketQueue.Queue.{link_of, queue_at}
use Rattle.kernel_lists.specs.TaskBlock.Lists.{coroutine_link, coroutines_in, first_coroutine, module_link, modules_in}
use Rattle.kernel_lists.specs.TaskBlock.RootWords.{first_module, first_task}
use Rattle.kernel_lists.specs.TaskBlock.TaskChain.{task_link, tasks_in}
use Rattle.kernel_model.specs.KernelRecord.KernelRanges.{has_residents}
use Rattle.kernel_model.specs.KernelRecord.Owned.{clock_head, keyboard_head, output_head}
use Rattle.kernel_model.specs.KernelRecord.Residents.{pending_head}
use Rattle.kernel_model.specs.KernelRecord.Task.{queue_head}

-- ---- one list

-- the links of the packets from a head on come to an end
abbrev pub QueueEnds : List ℕ → ℕ → Type 0
QueueEnds s head = IsChain s link_of head (queue_at s head)

-- the links of the coroutines of the task at t come to an end
abbrev pub CoroutinesEnd : List ℕ → ℕ → Type 0
CoroutinesEnd s t = IsChain s coroutine_link (first_coroutine t) (coroutines_in s t)

-- The lists of the task at t end.
pub record TaskListsEnd (s : List ℕ) (t : ℕ) : Type 0 where
  -- its queue
  pub queue : QueueEnds s (queue_head t)
  -- and its coroutines
  pub coroutines : CoroutinesEnd s t

-- ---- those that are left, from the last one to the first one

-- no links lead to the key packet, its arguments and the fault packet
abbrev pub PacketsEnd : Type 0
PacketsEnd = Unit {0} × (Unit {0} × Unit {0})

-- the reads that wait for a line end; the packets after them have no links
abbrev pub ConsoleQueueEnds : List ℕ → Type 0
ConsoleQueueEnds s = QueueEnds s pending_head × PacketsEnd

-- nor to the head of the reads that wait for a line
abbrev pub ConsoleAll : List ℕ → Type 0
ConsoleAll s = Unit {0} × ConsoleQueueEnds s

-- the reads that wait for a line end, where there are residents
abbrev pub ConsoleEnds : List ℕ → Type 0
ConsoleEnds s = has_residents s ≡ true → ConsoleAll s

-- the packets at the output end, and all that come after them in the order
abbrev pub OutputEnds : List ℕ → Type 0
OutputEnds s = QueueEnds s output_head × ConsoleEnds s

-- the packets at the keyboard end, and all that come after them
abbrev pub KeyboardEnds : List ℕ → Type 0
KeyboardEnds s = QueueEnds s keyboard_head × OutputEnds s

-- the packets at the clock end, and all that come after them
abbrev pub DevicesEnd : List ℕ → Type 0
DevicesEnd s = QueueEnds s clock_head × KeyboardEnds s

-- the lists of each task end, and all that come after them
abbrev pub TasksEnd : List ℕ → Type 0
TasksEnd s = AllByRecursion (TaskListsEnd s) (tasks_in s) × DevicesEnd s

-- the list of modules ends, and all that come after it
abbrev pub ModulesEnd : List ℕ → Type 0
ModulesEnd s = IsChain s module_link first_module (modules_in s) × TasksEnd s

-- the chain of tasks ends, and all that come after it
abbrev pub AllEnd : List ℕ → Type 0
AllEnd s = IsChain s task_link first_task (tasks_in s) × ModulesEnd s
