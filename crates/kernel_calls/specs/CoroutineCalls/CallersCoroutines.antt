-- The coroutines of the task that makes a call.
use Rattle.std.specs.Prelude.{ℕ, ◌==◌, Bool, not, find, map}
use Rattle.std.specs.Option.{option_map_or}
use Rattle.kernel_lists.specs.LinkedList.Places.{has}
use Rattle.kernel_lists.specs.Coroutines.CoroutineExchanges.{TaskCoroutines, current_of}
use Rattle.kernel_lists.specs.Coroutines.HeldCoroutines.{address_of}
use Rattle.kernel_model.specs.KernelRecord.Changes.{with_task}
use Rattle.kernel_model.specs.KernelRecord.Lists.{Lists}
use Rattle.kernel_model.specs.KernelRecord.Task.{Task}
use Rattle.kernel_calls.specs.CallAnswers.Tasks.{no_coroutines}

-- the coroutines of the running task
abbrev pub coroutines_of_caller : Lists → TaskCoroutines
coroutines_of_caller l = option_map_or (λ t. t.coroutines) (find (λ t. t.id == l.running) l.tasks) no_coroutines

-- c is one of them
abbrev pub is_one_of : ℕ → TaskCoroutines → Bool
is_one_of c k = has c (map address_of k.list)

-- c is active, and so has a parent
abbrev pub has_parent : ℕ → TaskCoroutines → Bool
has_parent c k = has c k.active

-- whether a coroutine is current, and not the root
abbrev pub is_within : TaskCoroutines → Bool
is_within k = not (current_of k == 0)

-- the task with its coroutines changed
abbrev pub with_changed : (TaskCoroutines → TaskCoroutines) → Task → Task
with_changed change t = record t { coroutines = change t.coroutines }

-- the lists with the coroutines of the running task changed
abbrev pub with_callers : (TaskCoroutines → TaskCoroutines) → Lists → Lists
with_callers change l = with_task l.running (with_changed change) l
