-- Tasks whose words a store holds. A kind of task has an address, a number, and words, its link and its number among them.
use Rattle.std.specs.Prelude.{◌≡◌, ℕ, ◌+◌, ◌<◌, ◌≤◌, ◌==◌, if◌then◌else◌, List, [], ◌∷◌, length, map, slice_index}
use Rattle.std.specs.List.{AllByRecursion}
use Rattle.word_store.specs.Count.{IsApart, times}
use Rattle.kernel_lists.specs.OwnedWords.LinkedWords.{AreNodes, headed_words, linked_words}
use Rattle.kernel_lists.specs.OwnedWords.Owned.{AreInside, Holds, Pairs, owners}
use Rattle.kernel_lists.specs.TaskBlock.RootWords.{first_task, table_entry}
use Rattle.kernel_lists.specs.TaskBlock.TaskChain.{HasTasks, id_in, root_words, task_link, task_size, tasks_in}
use Rattle.kernel_lists.specs.TaskBlock.Versions.{highest_id}

-- the address of the first one with the number, or 0
abbrev pub address_with : {X : Type 0} → (X → ℕ) → (X → ℕ) → List X → ℕ → ℕ
address_with address id [] i = 0
address_with address id (x ∷ xs) i = if id x == i then address x else address_with address id xs i

-- things of a kind are task blocks
pub record AreTasks {X : Type 0} (address id : X → ℕ) (words : X → ℕ → Pairs) : Type 0 where
  -- they are nodes of the chain
  pub nodes : AreNodes address words task_link task_size
  -- the words of each have its number
  pub number : (s : List ℕ) (x : X) (n : ℕ) → Holds s (words x n) → id_in s (address x) ≡ id x

-- The store holds the words of these tasks, from the head of the chain on, apart from the root and the table, and the table
-- leads to each by its number.
pub record HeldTasks {X : Type 0} (address id : X → ℕ) (words : X → ℕ → Pairs) (s : List ℕ) (xs : List X) : Type 0 where
  -- the store has the words of the root
  pub root : 184 ≤ length s
  -- it holds the words of the chain
  pub holds : Holds s (headed_words address words first_task xs 0)
  -- no word of a task is one of the root, or of another task
  pub apart : (a : ℕ) → times a root_words + owners a (linked_words address words xs 0) ≤ 1
  -- their words lie in the store
  pub inside : AreInside s (linked_words address words xs 0)
  -- no task is at address 0
  pub some : AllByRecursion (λ x. 0 < address x) xs
  -- the highest number is at most 63
  pub highest : highest_id s ≤ 63
  -- each has a number from 1 to the highest
  pub numbers : AllByRecursion (λ x. (1 ≤ id x) × (id x ≤ highest_id s)) xs
  -- no two have one number
  pub distinct : IsApart (map id xs)
  -- the table has the address of the task with each number, or 0
  pub table : (i : ℕ) → 1 ≤ i → i ≤ highest_id s → slice_index s (table_entry i) ≡ address_with address id xs i

-- the tasks of the store's chain are these
pub record HasTheseTasks (s : List ℕ) (ts : List ℕ) : Type 0 where
  -- there are the chain and the table of the store's tasks
  pub tasks : HasTasks s
  -- they are these, in the order of the chain
  pub chain : tasks_in s ≡ ts
