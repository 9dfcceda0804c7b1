-- The words that a new task gets, and what its parts ask.
use Rattle.std.specs.Prelude.{◌≡◌, ◌≢◌, ◌≤◌, ℕ, ◌+◌, ◌-◌, true, false, Result, Ok, Err, List, [], ◌∷◌, ◌++◌, drop, length}
use Rattle.std.specs.List.{AllByRecursion}
use Rattle.kernel_lists.specs.LinkedList.Places.{has}
use Rattle.kernel_lists.specs.OwnedWords.LinkedWords.{first_of}
use Rattle.kernel_lists.specs.TaskBlock.Lists.{modules_in}
use Rattle.kernel_lists.specs.HunkLoader.GlobalWords.{AreClear}
use Rattle.kernel_lists.specs.HunkLoader.ModuleHunks.{module_end}
use Rattle.kernel_model.specs.KernelRecord.Changes.{AreUnowned}
use Rattle.kernel_model.specs.KernelRecord.Lists.{Lists, has_task}
use Rattle.kernel_model.specs.KernelRecord.Task.{Task, filled}
use Rattle.kernel_model.specs.KernelRecord.ValidTasks.{dead}
use Rattle.kernel_model.specs.KernelRecord.Versions.{highest_id_of, most_modules_of}
use Rattle.kernel_calls.specs.CallAnswers.CallChange.{CallChange, unless_refused}
use Rattle.kernel_calls.specs.CallAnswers.Modules.{has_module}
use Rattle.kernel_calls.specs.BlockCalls.FreeStore.{has_room}
use Rattle.kernel_calls.specs.BlockCalls.Getvec.{getvec_tests}
use Rattle.kernel_calls.specs.TaskCalls.CreateTask.{last_word_of, with_created}

-- The first 23 words of a task block at t of so many words, before the task is in the chain: its number, its priority, its state,
-- its stack with the highest index, its globals, its maker and its first module; all else is 0.
abbrev pub first_words : ℕ → ℕ → ℕ → List ℕ → ℕ → ℕ → ℕ → List ℕ
first_words head t number modules u pri maker =
    0 ∷ number ∷ pri ∷ 0 ∷ dead ∷ 0 ∷ (t + head + 1001) ∷ u ∷ (t + head) ∷ maker ∷ first_of (λ m. m) modules 0
    ∷ 0 ∷ 0 ∷ 0 ∷ 0 ∷ 0 ∷ 0 ∷ 0 ∷ 0 ∷ 0 ∷ 0 ∷ 0 ∷ 0 ∷ []

-- all words of a new task's block: those words, and then its other modules
abbrev pub head_row : ℕ → ℕ → ℕ → List ℕ → ℕ → ℕ → ℕ → List ℕ
head_row head t number modules u pri maker = first_words head t number modules u pri maker ++ filled (head - 23) (drop 1 modules)

-- These are modules of the store, and the words of globals from g on are nobody's, and none of theirs.
pub record MaySetGlobals (s : List ℕ) (l : Lists) (modules : List ℕ) (g : ℕ) : Type 0 where
  -- nobody owns the words of the globals
  pub unowned : AreUnowned l g (g + 1001)
  -- the modules are those of the store
  pub listed : AllByRecursion (λ m. has m (modules_in s) ≡ true) modules
  -- none of the globals is a word of theirs
  pub clear : AllByRecursion (λ m. AreClear g m (module_end s m)) modules

-- the highest index of the words of a task with a stack up to the index u, where it is the number of a word; else no run is large
-- enough
abbrev pub IsLastWord : Lists → ℕ → Result ℕ ℕ → Type 0
IsLastWord l u (Ok k) = k ≡ last_word_of l.version u
IsLastWord l u (Err code) = (has_room (last_word_of l.version u) l ≡ false) × (code ≡ 1)

-- ---- a task that is put into a block of its own

-- The number is a guest's that no task has, the priority is one that no task has, the modules are of the list and from one to the
-- most, and the maker's number is at most the highest.
pub record MayPlace (l : Lists) (number : ℕ) (modules : List ℕ) (pri maker : ℕ) : Type 0 where
  -- it is no resident's number
  pub low : 5 ≤ number
  -- tasks may have it
  pub high : number ≤ highest_id_of l.version
  -- no task has it
  pub unused : has_task number l.tasks ≡ false
  -- the priority is at least 1
  pub lowest : 1 ≤ pri
  -- and at most 10,000
  pub most_pri : pri ≤ 10000
  -- no task has it
  pub untaken : AllByRecursion (λ t. t.priority ≢ pri) l.tasks
  -- the modules are of the list
  pub listed : AllByRecursion (λ m. has_module l m ≡ true) modules
  -- the maker has a task's number, or 0
  pub made_by : maker ≤ highest_id_of l.version
  -- the task has a module
  pub some_module : 1 ≤ length modules
  -- it has no more than it may have
  pub most : length modules ≤ most_modules_of l.version

-- what is made of such a task, where there is room
abbrev pub place_task : List ℕ → Lists → Task → CallChange
place_task s l t = unless_refused (getvec_tests l (last_word_of l.version t.highest)) l (with_created s l t)
