-- The shell clears up: the tasks that it has made are deleted once they are dead, and their modules go out.
use Rattle.std.specs.Prelude.{ℕ, ◌-◌, ◌==◌, if◌then◌else◌, Option, Some, None, Result, Ok, Err, List, [], ◌∷◌, find}
use Rattle.std.specs.List.{range_with_len}
use Rattle.kernel_lists.specs.OwnedWords.LinkedWords.{first_of}
use Rattle.kernel_model.specs.KernelRecord.Task.{Task}
use Rattle.kernel_model.specs.KernelRecord.Versions.{highest_id_of}
use Rattle.kernel_calls.specs.ModuleCalls.UnloadModule.{unload_module}
use Rattle.kernel_calls.specs.TaskCalls.DeleteTask.{delete_task}
use Rattle.kernel_model.specs.KernelRecord.StoreWithLists.{StoreWithLists}
use Rattle.kernel_model.specs.declared.kernel_record.numbers.TheConstants.{SHELL}
use Rattle.shell.specs.ShellPrograms.StoresWithLists.{left_by}

-- the first of a task's modules; a resident has none
abbrev pub first_module_of : Task → ℕ
first_module_of t = first_of (λ m. m) t.modules 0

-- the call that takes the module out is tried
abbrev pub unloaded : ℕ → StoreWithLists → StoreWithLists
unloaded m k = left_by k.words (unload_module k.lists m)

-- where the task was deleted, its module goes out too
abbrev pub after_deletion : Result ℕ ℕ → ℕ → StoreWithLists → StoreWithLists
after_deletion (Ok n) m k = unloaded m k
after_deletion (Err code) m k = k

-- the call that deletes the task is tried
abbrev pub deleted : ℕ → ℕ → StoreWithLists → StoreWithLists
deleted id m k = after_deletion (delete_task k.lists id).answer m (left_by k.words (delete_task k.lists id))

-- a task that the shell has made: the call refuses it where it is not dead, and where one of its packets still waits for the shell
abbrev pub cleared_task : ℕ → Option Task → StoreWithLists → StoreWithLists
cleared_task id None k = k
cleared_task id (Some t) k = if t.maker == SHELL then deleted id (first_module_of t) k else k

-- the task with the number, where it is there, is cleared up
abbrev pub cleared_at : ℕ → StoreWithLists → StoreWithLists
cleared_at id k = cleared_task id (find (λ t. t.id == id) k.lists.tasks) k

-- number after number
abbrev pub cleared_all : List ℕ → StoreWithLists → StoreWithLists
cleared_all [] k = k
cleared_all (id ∷ ids) k = cleared_all ids (cleared_at id k)

-- all numbers of guests, in rising order
unfoldable pub cleared : StoreWithLists → StoreWithLists
cleared k = cleared_all (range_with_len 5 (highest_id_of k.lists.version - 4)) k
