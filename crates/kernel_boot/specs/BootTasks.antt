-- The tasks that a session's lines start in a kernel.
use Rattle.std.specs.Prelude.{ℕ, ◌≡◌, ◌+◌, ◌≤◌, if◌then◌else◌, Option, Some, None, Result, Ok, Err, List, [], ◌∷◌, ◌++◌, length}
use Rattle.std.specs.List.{AllByRecursion}
use Rattle.std.specs.Option.{option_map}
use Rattle.arrayvec.specs.ArrayVec.{ArrayVec}
use Rattle.module_text.specs.ModuleOfText.{module_of}
use Rattle.module_text.specs.TextReader.Refusal.{Refusal}
use Rattle.module_text.specs.declared.modules.Module.{Module}
use Rattle.ram_disc.specs.Disc.{Disc, file_named}
use Rattle.session_text.specs.declared.sessions.LineForm.{LineForm}
use Rattle.session_text.specs.declared.sessions.LineForm.TheVariants.{Code, File, Task}
use Rattle.session_text.specs.declared.sessions.SessionLine.{SessionLine}
use Rattle.kernel_model.specs.KernelRecord.ChangedStore.{HasKeeper}
use Rattle.kernel_model.specs.KernelRecord.Lists.{Lists, has_task}
use Rattle.kernel_model.specs.KernelRecord.StoreWithLists.{StoreWithLists, left_with, store_with_lists}
use Rattle.kernel_model.specs.KernelRecord.Versions.{highest_id_of, most_modules_of}
use Rattle.kernel_calls.specs.CallAnswers.CallChange.{CallChange, refused}
use Rattle.kernel_calls.specs.ModuleCalls.LoadModule.{load_module}
use Rattle.kernel_calls.specs.TaskCalls.CreateTask.{create_task}
use Rattle.ram_disc.specs.declared.codes.TheConstants.{NO_FILE}
use Rattle.kernel_boot.specs.BegunTask.{with_begun}
use Rattle.kernel_boot.specs.BootFiles.{at_line}
use Rattle.kernel_boot.specs.declared.refusals.BootRefusal.{BootRefusal}

-- ---- call after call

-- what follows a call that was accepted; after one that was refused nothing does
abbrev pub on_answer : {A : Type 0} → Result ℕ ℕ → StoreWithLists → (ℕ → StoreWithLists → Result A ℕ) → Result A ℕ
on_answer (Ok n) k next = next n k
on_answer (Err code) k next = Err code

-- what follows a call, with its answer, and with the store and the lists that it left
abbrev pub after_call : {A : Type 0} → List ℕ → CallChange → (ℕ → StoreWithLists → Result A ℕ) → Result A ℕ
after_call words made next = on_answer made.answer (left_with words made.lists made.plain) next

-- ---- the modules of a task

-- the module of a text is loaded; where the text is none, the code is 60 more than that of the text
abbrev pub load_text : Lists → Result Module Refusal → CallChange
load_text l (Ok m) = load_module l m.hunks
load_text l (Err refusal) = refused l (60 + refusal.code)

-- there is such a file (code 41)
abbrev pub load_bytes : Lists → Option (List ℕ) → CallChange
load_bytes l None = refused l NO_FILE
load_bytes l (Some bytes) = load_text l (module_of bytes)

-- the module in the file of this name is loaded
abbrev pub load_named : Disc → List ℕ → Lists → CallChange
load_named d name l = load_bytes l (option_map (λ f. f.bytes) (file_named d name))

-- each name in turn loads a module of its own, also one that was loaded before: the modules so far and those of the names
abbrev pub load_names : Disc → List (List ℕ) → List ℕ → StoreWithLists → Result (List ℕ × StoreWithLists) ℕ
load_names d [] modules k = Ok (modules, k)
load_names d (name ∷ names) modules k =
    after_call k.words (load_named d name k.lists) (λ m j. load_names d names (modules ++ m ∷ []) j)

-- ---- a task

-- the task with the number is to begin at its function
abbrev pub begin_it : ℕ → StoreWithLists → Result StoreWithLists ℕ
begin_it id k = Ok (left_with k.words (with_begun k.words id k.lists) [])

-- the task of the modules that were loaded is created, and is to begin at its function
abbrev pub create_it : ℕ → ℕ → ℕ → Result (List ℕ × StoreWithLists) ℕ → Result StoreWithLists ℕ
create_it id pri stack (Err code) = Err code
create_it id pri stack (Ok x) = after_call x.1.words (create_task x.1.words x.1.lists id x.0 stack pri 0) begin_it

-- no task has the number (code 27); then come its modules, and then it is created, by no task
abbrev pub start_task : Disc → ℕ → ℕ → ℕ → List (List ℕ) → StoreWithLists → Result StoreWithLists ℕ
start_task d id pri stack names k =
    if has_task id k.lists.tasks then Err 27 else create_it id pri stack (load_names d names [] k)

-- ---- the tasks of all lines

-- what the line starts: lines that are no tasks start nothing
abbrev pub start_form : Disc → LineForm → StoreWithLists → Result StoreWithLists ℕ
start_form d (Task id pri stack names) k = start_task d id pri stack names k
start_form d (File name bytes) k = Ok k
start_form d (Code bytes) k = Ok k

-- line after line; the first that is refused ends it
abbrev pub start_tasks : Disc → List SessionLine → StoreWithLists → Result StoreWithLists BootRefusal
start_tasks d [] k = Ok k
start_tasks d (line ∷ lines) k = at_line line.line (start_form d line.form k) (λ j. start_tasks d lines j)

-- ---- what a session may ask

-- a task's number is a guest's, and it has from one to the most modules
pub record MayStart (version id : ℕ) (names : List (List ℕ)) : Type 0 where
  -- it is no resident's number
  pub low : 5 ≤ id
  -- tasks may have it
  pub high : id ≤ highest_id_of version
  -- the task has a module
  pub some_module : 1 ≤ length names
  -- it has no more than it may have
  pub most : length names ≤ most_modules_of version

-- a line that a boot can be given: the task in it has a number and modules that a task may have
abbrev pub IsBootForm : ℕ → LineForm → Type 0
IsBootForm version (Task id pri stack names) = MayStart version id names
IsBootForm version (File name bytes) = Unit {0}
IsBootForm version (Code bytes) = Unit {0}

-- lines that a boot can be given
abbrev pub AreBootLines : ℕ → List SessionLine → Type 0
AreBootLines version lines = AllByRecursion (λ line. IsBootForm version line.form) lines

-- ---- what a function leaves

-- the store holds the lists that are made, and the keeper knows their words; or the answer is its refusal
abbrev pub IsLeft : {E : Type 0} → List ℕ → (List ℕ → Type 0) → ℕ → Result (Unit {0}) E → Result StoreWithLists E → Type 0
IsLeft s tells room (Ok u) made = (l : Lists) × (made ≡ Ok (store_with_lists s l)) × HasKeeper s tells room l
IsLeft s tells room (Err refusal) made = made ≡ Err refusal

-- the same, where modules are answered
abbrev pub AreLoaded : List ℕ → (List ℕ → Type 0) → ℕ → Result (ArrayVec ℕ) ℕ → Result (List ℕ × StoreWithLists) ℕ → Type 0
AreLoaded s tells room (Ok modules) made = (l : Lists) × (made ≡ Ok (modules.items, store_with_lists s l)) × HasKeeper s tells room l
AreLoaded s tells room (Err code) made = made ≡ Err code
