-- The call that tests flags of the task that makes it.
use Rattle.std.specs.Prelude.{ℕ, ◌-◌, ◌^◌, ◌==◌, Ok, [], bit_and, find}
use Rattle.std.specs.Option.{option_map_or}
use Rattle.kernel_model.specs.KernelRecord.Changes.{with_task}
use Rattle.kernel_model.specs.KernelRecord.Lists.{Lists}
use Rattle.kernel_model.specs.KernelRecord.Task.{Task}
use Rattle.kernel_calls.specs.CallAnswers.CallChange.{CallChange}

-- the flags of the running task that are among these
abbrev pub flags_among : Lists → ℕ → ℕ
flags_among l mask = option_map_or (λ t. bit_and t.flags mask) (find (λ t. t.id == l.running) l.tasks) 0

-- a task without the flags of the mask
abbrev pub cleared : ℕ → Task → Task
cleared mask t = record t { flags = bit_and t.flags (2 ^ 32 - 1 - mask) }

-- The running task learns which flags of the mask it has, and loses them.
abbrev pub test_flags : Lists → ℕ → CallChange
test_flags l mask = record { answer = Ok (flags_among l mask); lists = with_task l.running (cleared mask) l; plain = []; events = [] }
