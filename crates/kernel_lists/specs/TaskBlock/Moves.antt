-- The words of the store once a task has come into the chain and the table, or gone out.
use Rattle.std.specs.Prelude.{◌≡◌, ℕ, ◌+◌, ◌<◌, false, List, slice_index, slice_set}
use Rattle.std.specs.List.{AllByRecursion}
use Rattle.kernel_lists.specs.LinkedList.Places.{cell_after, linked_in, without, without_node}
use Rattle.kernel_lists.specs.TaskBlock.RootWords.{first_task, table_entry}
use Rattle.kernel_lists.specs.TaskBlock.TaskChain.{Fall, HasTasks, IsNewPriority, IsNewTask, id_in, is_above, is_priority_used, priority_in, task_link, tasks_in}
use Rattle.kernel_lists.specs.TaskBlock.TaskWords.{word_index}
use Rattle.kernel_lists.specs.declared.task_block.fields.TcbField.TheVariants.{Pri}

-- the word after which the task at t comes in: the link of the last task of a higher priority, or the head
abbrev pub link_above : List ℕ → ℕ → ℕ
link_above s t = cell_after (is_above s t) task_link first_task (tasks_in s)

-- the store in which the task at t has come in: it is linked after that word, and its entry leads to it
abbrev pub with_task : List ℕ → ℕ → List ℕ
with_task s t = slice_set (linked_in s task_link (link_above s t) t) (table_entry (id_in s t)) t

-- the store in which it has gone out: it is linked out, and its entry is 0
abbrev pub without_task : List ℕ → ℕ → List ℕ
without_task s t = slice_set (without_node s task_link first_task t) (table_entry (id_in s t)) 0

-- the store in which it has gone out, and has that priority
abbrev pub with_priority : List ℕ → ℕ → ℕ → List ℕ
with_priority s t pri = slice_set (without_task s t) (t + word_index Pri) pri

-- The words 2 to 22 of a task block that may come in are no words of the chain or the table, whatever is written there.
pub record StaysNew (s v : List ℕ) (t : ℕ) : Type 0 where
  -- the chain is as it was
  pub chain : tasks_in v ≡ tasks_in s
  -- so are the words of the tasks in it
  pub words : (j : ℕ) → j < 23 → AllByRecursion (λ u. slice_index v (u + j) ≡ slice_index s (u + j)) (tasks_in s)
  -- the chain is one, and the table agrees with it
  pub tasks : HasTasks v
  -- the task is not in the chain
  pub task : IsNewTask v t
  -- the priorities fall where they fell
  pub order : Fall s (tasks_in s) → Fall v (tasks_in v)

-- A task has gone out, and may come in again with another priority.
pub record HasNewPriority (s v : List ℕ) (t pri : ℕ) : Type 0 where
  -- the task is out of the chain
  pub chain : tasks_in v ≡ without t (tasks_in s)
  -- the others are a chain, and the table agrees with it
  pub tasks : HasTasks v
  -- the task may come in again
  pub task : IsNewTask v t
  -- the priorities fall where they fell
  pub order : Fall s (tasks_in s) → Fall v (tasks_in v)
  -- it has the priority
  pub priority : priority_in v t ≡ pri
  -- no other task has that, where none had it
  pub unused : is_priority_used s pri (id_in s t) ≡ false → IsNewPriority v t
