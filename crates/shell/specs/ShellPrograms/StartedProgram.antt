-- The shell starts a program: a task of its module, which is dead until a packet comes, or begins at once.
use Rattle.std.specs.Prelude.{◌≡◌, ℕ, ◌+◌, Option, Some, None, Result, Ok, Err, List, [], ◌∷◌, unwrap_or}
use Rattle.std.specs.Option.{option_map}
use Rattle.module_text.specs.ModuleOfText.{module_of}
use Rattle.ram_disc.specs.Disc.{Disc, file_named}
use Rattle.kernel_model.specs.KernelRecord.Lists.{Lists}
use Rattle.kernel_model.specs.KernelRecord.Versions.{highest_id_of}
use Rattle.kernel_calls.specs.CallAnswers.CallChange.{CallChange, refused}
use Rattle.kernel_calls.specs.TaskCalls.CreateTask.{create_task, free_id}
use Rattle.kernel_boot.specs.BegunTask.{with_begun}
use Rattle.kernel_model.specs.KernelRecord.StoreWithLists.{StoreWithLists, left_with}
use Rattle.kernel_boot.specs.BootTasks.{load_text}
use Rattle.kernel_model.specs.declared.kernel_record.numbers.TheConstants.{SHELL}
use Rattle.ram_disc.specs.declared.codes.TheConstants.{NO_FILE}
use Rattle.shell.specs.ShellPrograms.ClearedTasks.{unloaded}
use Rattle.shell.specs.ShellPrograms.StoresWithLists.{RepresentsStoreWithLists, left_by}
use Rattle.shell.specs.declared.shell_programs.programs.Priority.{Priority}
use Rattle.shell.specs.declared.shell_programs.programs.Priority.TheVariants.{AboveShell, BelowShell, Given}

-- the highest index of its stack
abbrev pub program_stack : ℕ
program_stack = 1000

-- the number that a new program gets: the lowest of a guest's that no task has, or where all are used one more than the highest
abbrev pub next_number : Lists → ℕ
next_number l = unwrap_or (free_id l) (highest_id_of l.version + 1)

-- the priority that a new program gets: the shell has 1000
abbrev pub priority_of : Priority → Lists → ℕ
priority_of (Given pri) l = pri
priority_of BelowShell l = 500 + next_number l
priority_of AboveShell l = 2000 + next_number l

-- What is left where a program was to be started.
pub record Started : Type 0 where
  -- the number of its task, or the code of the refusal
  pub answer : Result ℕ ℕ
  -- the store and its lists
  pub left : StoreWithLists

-- a start has this answer, and leaves this store with its lists
abbrev pub started : Result ℕ ℕ → StoreWithLists → Started
started answer k = record { answer = answer; left = k }

-- ---- its module

-- there is such a file (code 41), nothing else of the line is refused, and the module is loaded (60 and more, 1)
abbrev pub load_found : Option (List ℕ) → Result (Unit {0}) ℕ → Lists → CallChange
load_found None rest l = refused l NO_FILE
load_found (Some bytes) (Err code) l = refused l code
load_found (Some bytes) (Ok u) l = load_text l (module_of bytes)

-- the module of the program in the file of this name
abbrev pub load_program : Disc → List ℕ → Result (Unit {0}) ℕ → Lists → CallChange
load_program d name rest l = load_found (option_map (λ f. f.bytes) (file_named d name)) rest l

-- ---- its task

-- where no task can be created the module goes again
abbrev pub after_creation : Result ℕ ℕ → ℕ → StoreWithLists → Started
after_creation (Ok id) m k = started (Ok id) k
after_creation (Err code) m k = started (Err code) (unloaded m k)

-- the shell creates a task of the module (9, 8, 10, 18, 1)
abbrev pub creation : Priority → ℕ → StoreWithLists → CallChange
creation priority m k = create_task k.words k.lists 0 (m ∷ []) program_stack (priority_of priority k.lists) SHELL

-- A task of a module, which is dead until a packet comes; where none can be created the module goes again.
abbrev pub create_program : Priority → ℕ → StoreWithLists → Started
create_program priority m k = after_creation (creation priority m k).answer m (left_by k.words (creation priority m k))

-- ---- both

-- where the module was loaded a task of it is created
abbrev pub after_loading : Result ℕ ℕ → Priority → StoreWithLists → Started
after_loading (Ok m) priority k = create_program priority m k
after_loading (Err code) priority k = started (Err code) k

-- A program is started from the file of this name; what followed the name on the line is looked at once the file is found.
unfoldable pub start_program : Disc → List ℕ → Result (Unit {0}) ℕ → Priority → StoreWithLists → Started
start_program d name rest priority k =
    after_loading (load_program d name rest k.lists).answer priority (left_by k.words (load_program d name rest k.lists))

-- ---- its beginning

-- the task begins at its function once it is its turn, without a packet
abbrev pub begun : ℕ → StoreWithLists → StoreWithLists
begun id k = left_with k.words (with_begun k.words id k.lists) []

-- The function has answered so, and the store is as is said.
pub record IsStarted (s : List ℕ) (tells : List ℕ → Type 0) (room : ℕ) (answer : Result ℕ ℕ) (x : Started) : Type 0 where
  -- this is the answer
  pub answered : answer ≡ x.answer
  -- the store is as it is left
  pub represents : RepresentsStoreWithLists s tells room x.left
