-- What several calls say of tasks.
use Rattle.std.specs.Prelude.{ℕ, ◌==◌, ◌&&◌, Bool, []}
use Rattle.std.specs.List.{list_any}
use Rattle.kernel_lists.specs.Coroutines.CoroutineExchanges.{TaskCoroutines}
use Rattle.kernel_model.specs.KernelRecord.Lists.{Lists}
use Rattle.kernel_model.specs.KernelRecord.ValidTasks.{dead}

-- the task with the number is dead
abbrev pub is_dead : Lists → ℕ → Bool
is_dead l id = list_any (λ t. (t.id == id) && (t.field == dead)) l.tasks

-- the coroutines of a task that has none
abbrev pub no_coroutines : TaskCoroutines
no_coroutines = record { list = []; active = []; root_p = 0; root_pc = 0 }
