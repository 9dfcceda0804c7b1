-- The rules of tasks, in the parts in which they are decided.
use Rattle.std.specs.Prelude.{◌≡◌, ◌≢◌, ℕ, ◌+◌, ◌/◌, ◌<◌, ◌≤◌, ◌⊎◌, Bool, true, false, List, length, map, slice_index}
use Rattle.std.specs.List.{AllByRecursion}
use Rattle.kernel_lists.specs.LinkedList.Places.{has}
use Rattle.kernel_lists.specs.HunkLoader.HeldModules.{module_address}
use Rattle.kernel_model.specs.KernelRecord.Lists.{Lists, has_task}
use Rattle.kernel_model.specs.KernelRecord.Task.{Task, is_held_state}
use Rattle.kernel_model.specs.KernelRecord.ValidTasks.{IsField}
use Rattle.kernel_model.specs.KernelRecord.Versions.{highest_id_of, most_modules_of}
use Rattle.store_claims.specs.WordClaims.Marks.{is_open}

-- What is asked of guests and residents alike.
pub record HasTaskNumbers (l : Lists) (t : Task) : Type 0 where
  -- priorities begin with 1
  pub low : 1 ≤ t.priority
  -- and end with 10,000
  pub high : t.priority ≤ 10000
  -- the number of a task, or 0
  pub maker : t.maker ≤ highest_id_of l.version
  -- it runs, waits, was interrupted or is dead
  pub field : IsField t.field
  -- its saved C is a byte
  pub byte : t.saved.c < 256

-- The modules of a guest.
pub record HasModules (l : Lists) (t : Task) : Type 0 where
  -- it has one
  pub some_module : 1 ≤ length t.modules
  -- and no more than the version allows
  pub most : length t.modules ≤ most_modules_of l.version
  -- each of them is in the store
  pub modules : AllByRecursion (λ m. has m (map module_address l.modules) ≡ true) t.modules

-- The residents are there, or none of them is; the reporter of faults may be absent.
pub record HasResidents (l : Lists) : Type 0 where
  -- the shell
  pub shell : has_task 1 l.tasks ≡ l.residents
  -- the console
  pub console : has_task 3 l.tasks ≡ l.residents
  -- the file handler
  pub files : has_task 4 l.tasks ≡ l.residents
  -- the reporter of faults
  pub reporter : has_task 2 l.tasks ≡ true → l.residents ≡ true

-- each of these words that is not 0 is open
abbrev pub AreNamed : List Bool → List ℕ → Type 0
AreNamed marks ws = (k : ℕ) → k < length ws → slice_index ws k ≢ 0 → is_open marks (slice_index ws k) ≡ true

-- One of them is not 0.
pub record HasWord (ws : List ℕ) : Type 0 where
  -- which one
  pub at : ℕ
  -- it is one of them
  pub low : at < length ws
  -- and not 0
  pub some : slice_index ws at ≢ 0

-- The words of a resident's task block that hold nothing, and its state.
pub record IsIdle (s : List ℕ) (t : ℕ) : Type 0 where
  -- it is not dead
  pub alive : slice_index s (t + 4) / 4 ≢ 3
  -- nor held
  pub free : is_held_state (slice_index s (t + 4)) ≡ false
  -- it has no module
  pub code : slice_index s (t + 10) ≡ 0
  -- no stack
  pub stack : slice_index s (t + 7) ≡ 0
  -- no fault
  pub fault : slice_index s (t + 21) ≡ 0
  -- and no address of one
  pub fault_address : slice_index s (t + 22) ≡ 0
  -- it has no coroutine
  pub first : slice_index s (t + 17) ≡ 0
  -- so none is active
  pub current : (slice_index s (t + 18) ≡ 0) ⊎ (slice_index s (t + 18) ≡ t)
  -- no registers are saved
  pub saved : (i : ℕ) → 11 ≤ i → i < 17 → slice_index s (t + i) ≡ 0

-- after a word that is 0 each is 0
abbrev pub IsDense : List ℕ → Type 0
IsDense ws = (k : ℕ) → k + 1 < length ws → slice_index ws k ≡ 0 → slice_index ws (k + 1) ≡ 0
