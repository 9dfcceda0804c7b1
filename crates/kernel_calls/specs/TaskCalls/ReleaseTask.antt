-- The call that releases a task.
use Rattle.std.specs.Prelude.{ℕ, Bool, false, List, [], ◌∷◌, ◌++◌}
use Rattle.kernel_model.specs.KernelRecord.Changes.{with_task}
use Rattle.kernel_model.specs.KernelRecord.Lists.{Lists}
use Rattle.kernel_model.specs.KernelRecord.Task.{Task}
use Rattle.kernel_calls.specs.CallAnswers.Guests.{guest_tests}
use Rattle.kernel_calls.specs.CallAnswers.CallChange.{CallChange, done, unless_refused}
use Rattle.kernel_calls.specs.TaskCalls.OneTask.{is_held}

-- the tests of the call: the task is a guest (codes 2, 14), and held (code 15)
abbrev pub release_tests : Lists → ℕ → List (Bool × ℕ)
release_tests l id = guest_tests l id ++ (is_held l id, 15) ∷ []

-- a task that is not held
abbrev pub released : Task → Task
released t = record t { held = false }

-- The guest with the number is released, unless it is refused; the answer is -1.
abbrev pub release : Lists → ℕ → CallChange
release l id = unless_refused (release_tests l id) l (done (with_task id released l))
