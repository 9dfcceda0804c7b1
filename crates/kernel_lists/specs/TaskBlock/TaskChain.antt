-- The chain of tasks, and the table that has each task by its number.
use Rattle.std.specs.Prelude.{◌≡◌, ◌≢◌, ℕ, ◌+◌, ◌-◌, ◌<◌, ◌≤◌, ◌==◌, ◌&&◌, Bool, not, nat_lt, Option, None, is_none, find, unwrap_or, List, [], ◌∷◌, ◌++◌, length, slice_index}
use Rattle.std.specs.List.{AllByRecursion, list_any, range_with_len}
use Rattle.word_store.specs.Count.{IsApart, node_words, times, words_of}
use Rattle.kernel_lists.specs.LinkedList.Chain.{list_at}
use Rattle.kernel_lists.specs.LinkedList.Linked.{HasList, IsNode}
use Rattle.kernel_lists.specs.TaskBlock.RootWords.{first_task, table_entry}
use Rattle.kernel_lists.specs.TaskBlock.TaskWords.{word_index}
use Rattle.kernel_lists.specs.TaskBlock.Versions.{highest_id}
use Rattle.kernel_lists.specs.declared.task_block.fields.TcbField.TheVariants.{Id, Pri}

-- a task block's link is its word 0
abbrev pub task_link : ℕ → ℕ
task_link t = t

-- every task block has 23 words, its link among them
abbrev pub task_size : ℕ → ℕ
task_size t = 23

-- the tasks in the order of the chain
abbrev pub tasks_in : List ℕ → List ℕ
tasks_in s = list_at s task_link first_task

-- the number of the task at t
abbrev pub id_in : List ℕ → ℕ → ℕ
id_in s t = slice_index s (t + word_index Id)

-- the priority of the task at t
abbrev pub priority_in : List ℕ → ℕ → ℕ
priority_in s t = slice_index s (t + word_index Pri)

-- the task with the number
abbrev pub task_with : List ℕ → ℕ → List ℕ → Option ℕ
task_with s i ts = find (λ t. id_in s t == i) ts

-- the words 100 to 183, which are the root node and the task table
abbrev pub root_words : List ℕ
root_words = range_with_len 100 84

-- a task's number is in the table's range, and the table leads to the task
pub record IsInTable (s : List ℕ) (t : ℕ) : Type 0 where
  -- its number is at least 1
  pub low : 1 ≤ id_in s t
  -- and at most the highest
  pub high : id_in s t ≤ highest_id s
  -- the table has its address
  pub entry : slice_index s (table_entry (id_in s t)) ≡ t

-- there is the chain, apart from the root and the table, and the table agrees with it
pub record HasTasks (s : List ℕ) : Type 0 where
  -- the store has the words of the root
  pub root : 184 ≤ length s
  -- the chain is a list
  pub chain : HasList s task_link task_size first_task
  -- no word is of two tasks, or of a task and the root
  pub apart : IsApart (root_words ++ words_of task_size (tasks_in s))
  -- the highest number is at most 63
  pub highest : highest_id s ≤ 63
  -- each task of the chain is in the table
  pub listed : AllByRecursion (IsInTable s) (tasks_in s)
  -- the table has no others
  pub table : (i : ℕ) → 1 ≤ i → i ≤ highest_id s → slice_index s (table_entry i) ≡ unwrap_or (task_with s i (tasks_in s)) 0

-- a task block that may come into the chain
pub record IsNewTask (s : List ℕ) (t : ℕ) : Type 0 where
  -- it is a node in the store
  pub node : IsNode s task_link task_size t
  -- none of its words is one of the root, or of a task
  pub apart : (a : ℕ) → times a (node_words task_size t) + times a (root_words ++ words_of task_size (tasks_in s)) ≤ 1
  -- its number is at least 1
  pub low : 1 ≤ id_in s t
  -- and at most the highest
  pub high : id_in s t ≤ highest_id s
  -- no task has it
  pub unused : task_with s (id_in s t) (tasks_in s) ≡ None

-- whether a task's priority is above that of another
abbrev pub is_above : List ℕ → ℕ → ℕ → Bool
is_above s t u = nat_lt (priority_in s t) (priority_in s u)

-- priorities fall along the chain
abbrev pub Fall : List ℕ → List ℕ → Type 0
Fall s [] = Unit {0}
Fall s (t ∷ ts) = AllByRecursion (λ u. priority_in s u < priority_in s t) ts × Fall s ts

-- no task has the priority of the one at t
abbrev pub IsNewPriority : List ℕ → ℕ → Type 0
IsNewPriority s t = AllByRecursion (λ u. priority_in s u ≢ priority_in s t) (tasks_in s)

-- whether a task with another number has the priority
abbrev pub is_priority_used : List ℕ → ℕ → ℕ → Bool
is_priority_used s pri except = list_any (λ t. (priority_in s t == pri) && not (id_in s t == except)) (tasks_in s)

-- the lowest number of a guest, from 5, that no task has
abbrev pub lowest_free_id : List ℕ → Option ℕ
lowest_free_id s = find (λ i. is_none (task_with s i (tasks_in s))) (range_with_len 5 (highest_id s - 4))
