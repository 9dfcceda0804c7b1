-- The call that sets flags of a task.
use Rattle.std.specs.Prelude.{ℕ, bit_or}
use Rattle.kernel_model.specs.KernelRecord.Changes.{with_task}
use Rattle.kernel_model.specs.KernelRecord.Lists.{Lists}
use Rattle.kernel_model.specs.KernelRecord.Task.{Task}
use Rattle.kernel_calls.specs.CallAnswers.Guests.{guest_tests}
use Rattle.kernel_calls.specs.CallAnswers.CallChange.{CallChange, done, unless_refused}

-- a task with these flags besides its own
abbrev pub flagged : ℕ → Task → Task
flagged flags t = record t { flags = bit_or t.flags flags }

-- The guest with the number gets these flags besides its own, unless it is refused; the answer is -1.
abbrev pub set_flags : Lists → ℕ → ℕ → CallChange
set_flags l id flags = unless_refused (guest_tests l id) l (done (with_task id (flagged flags) l))
