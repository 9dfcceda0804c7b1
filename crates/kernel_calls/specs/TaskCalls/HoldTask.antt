-- The call that holds a task.
use Rattle.std.specs.Prelude.{ℕ, Bool, true, not, List, [], ◌∷◌, ◌++◌}
use Rattle.kernel_model.specs.KernelRecord.Changes.{with_task}
use Rattle.kernel_model.specs.KernelRecord.Lists.{Lists}
use Rattle.kernel_model.specs.KernelRecord.Task.{Task}
use Rattle.kernel_calls.specs.CallAnswers.Guests.{guest_tests}
use Rattle.kernel_calls.specs.CallAnswers.CallChange.{CallChange, done, unless_refused}
use Rattle.kernel_calls.specs.TaskCalls.OneTask.{is_held}

-- the tests of the call: the task is a guest (codes 2, 14), and not held already (code 16)
abbrev pub hold_tests : Lists → ℕ → List (Bool × ℕ)
hold_tests l id = guest_tests l id ++ (not (is_held l id), 16) ∷ []

-- a task that is held: it does not run until it is released
abbrev pub held : Task → Task
held t = record t { held = true }

-- The guest with the number is held, unless it is refused; the answer is -1.
abbrev pub hold : Lists → ℕ → CallChange
hold l id = unless_refused (hold_tests l id) l (done (with_task id held l))
