-- The call that creates a task.
use Rattle.std.specs.Prelude.{◌≡◌, ℕ, ◌+◌, ◌-◌, ◌≤◌, ◌⊎◌, ◌==◌, Bool, false, not, if◌then◌else◌, Option, Some, is_some, unwrap_or, Ok, List, [], ◌∷◌, ◌++◌, find, length, nat_lt, replicate}
use Rattle.std.specs.List.{flat_map, list_any, range_with_len}
use Rattle.kernel_lists.specs.OwnedWords.Owned.{row_from}
use Rattle.kernel_lists.specs.HunkLoader.Globals.{globals_in, highest, most_globals, with_globals}
use Rattle.kernel_lists.specs.HunkLoader.ModuleHunks.{hunks_in}
use Rattle.kernel_model.specs.KernelRecord.Changes.{with_new_task}
use Rattle.kernel_model.specs.KernelRecord.Lists.{Lists, has_task}
use Rattle.kernel_model.specs.KernelRecord.Task.{Task}
use Rattle.kernel_model.specs.KernelRecord.ValidTasks.{dead, no_regs}
use Rattle.kernel_model.specs.KernelRecord.Versions.{head_words_of, highest_id_of, most_modules_of}
use Rattle.kernel_calls.specs.CallAnswers.CallChange.{CallChange, unless_refused}
use Rattle.kernel_calls.specs.CallAnswers.Tasks.{no_coroutines}
use Rattle.kernel_calls.specs.CallAnswers.Modules.{has_module}
use Rattle.kernel_calls.specs.TaskCalls.ChangePri.{priority_tests}
use Rattle.kernel_calls.specs.BlockCalls.FreeStore.{data_taken, with_taken}
use Rattle.kernel_calls.specs.BlockCalls.Getvec.{getvec_tests}

-- ---- its number

-- the lowest number of a guest that no task has
abbrev pub free_id : Lists → Option ℕ
free_id l = find (λ i. not (has_task i l.tasks)) (range_with_len 5 (highest_id_of l.version - 4))

-- the number of the new task: the one that is asked for, or where that is 0 the lowest that is free
abbrev pub number_of : Lists → ℕ → Option ℕ
number_of l id = if id == 0 then free_id l else Some id

-- ---- its block

-- the highest index of its words: its task block, 1,001 globals, and the stack up to the index u
abbrev pub last_word_of : ℕ → ℕ → ℕ
last_word_of version u = head_words_of version + 1001 + u

-- ---- its globals

-- a module has a hunk with a number above the highest
abbrev pub has_high_globals : List ℕ → ℕ → Bool
has_high_globals s m = list_any (λ h. nat_lt most_globals (highest h.words)) (hunks_in s m)

-- global 0 is 1000, and the modules set theirs, one module after the other; all else is 0
abbrev pub globals_row : List ℕ → List ℕ → List ℕ
globals_row s modules = with_globals (1000 ∷ replicate 1000 0) 0 (flat_map (globals_in s) modules)

-- the words after its task block: the globals and the stack
abbrev pub row_behind : List ℕ → List ℕ → ℕ → List ℕ
row_behind s modules u = globals_row s modules ++ replicate (u + 1) 0

-- ---- the call

-- all of them are modules of the list (code 17), it is a priority (9), which no task has (8), some number is free (10), the globals
-- of all modules fit (18), and some run is large enough (1)
abbrev pub creation_tests : List ℕ → Lists → ℕ → List ℕ → ℕ → ℕ → List (Bool × ℕ)
creation_tests s l id modules u pri =
    (not (list_any (λ m. not (has_module l m)) modules), 17) ∷ priority_tests l 0 pri
    ++ (is_some (number_of l id), 10) ∷ (not (list_any (has_high_globals s) modules), 18)
    ∷ getvec_tests l (last_word_of l.version u)

-- the new task, which is dead, and has no packets and no coroutines
abbrev pub new_task : Lists → ℕ → List ℕ → ℕ → ℕ → ℕ → Task
new_task l number modules u pri maker =
    record {
      id = number;
      address = data_taken (last_word_of l.version u) l;
      priority = pri;
      flags = 0;
      maker = maker;
      modules = modules;
      highest = u;
      field = dead;
      held = false;
      fault = 0;
      fault_address = 0;
      saved = no_regs;
      queue = [];
      coroutines = no_coroutines;
    }

-- a task is created: it is in the chain, in a block that was taken, of which the words after its task block are plain
abbrev pub with_created : List ℕ → Lists → Task → CallChange
with_created s l t =
    record {
      answer = Ok t.id;
      lists = with_new_task t (with_taken (last_word_of l.version t.highest) l);
      plain = row_from t.address (head_words_of l.version) (row_behind s t.modules t.highest);
      events = [];
    }

-- A new guest with these modules, a stack with the indices 0 to u, a priority and a maker. Its number is `id`, or the lowest that
-- is free where that is 0; it is the answer, unless the call is refused.
abbrev pub create_task : List ℕ → Lists → ℕ → List ℕ → ℕ → ℕ → ℕ → CallChange
create_task s l id modules u pri maker =
    unless_refused (creation_tests s l id modules u pri) l
    (with_created s l (new_task l (unwrap_or (number_of l id) 0) modules u pri maker))

-- The number is 0, or one of a guest's that no task has; the maker's number is at most the highest; and there are from one to the
-- most modules.
pub record MayCreate (l : Lists) (id : ℕ) (modules : List ℕ) (maker : ℕ) : Type 0 where
  -- the lowest free number is asked for, or a guest's that no task has
  pub number : (id ≡ 0) ⊎ ((5 ≤ id) × (id ≤ highest_id_of l.version) × (has_task id l.tasks ≡ false))
  -- the maker has a task's number, or 0
  pub made_by : maker ≤ highest_id_of l.version
  -- it has a module
  pub some_module : 1 ≤ length modules
  -- it has no more than it may have
  pub most : length modules ≤ most_modules_of l.version
