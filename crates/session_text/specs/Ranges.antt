-- The ranges of the numbers of a session, beside those of its machine.
use Rattle.std.specs.Prelude.{ℕ, ◌&&◌, ◌==◌, if◌then◌else◌, Bool, nat_le}
use Rattle.kernel_model.specs.KernelRecord.Ranges.{most_steps}

-- a number of steps: no machine takes more than the most
abbrev pub is_step : ℕ → Bool
is_step n = nat_le n most_steps

-- the highest number of a task
abbrev pub highest_task : ℕ → ℕ
highest_task version = if version == 1 then 20 else 63

-- the numbers of tasks that a session may have
abbrev pub is_task : ℕ → ℕ → Bool
is_task version id = nat_le 5 id && nat_le id (highest_task version)

-- a priority that a session may give a task: from 1 to 10,000
abbrev pub is_priority : ℕ → Bool
is_priority pri = nat_le 1 pri && nat_le pri 10000

-- the highest index of a stack
abbrev pub is_stack : ℕ → Bool
is_stack index = nat_le 20 index && nat_le index 100000

-- the most files that a task's program is loaded from
abbrev pub most_names : ℕ → ℕ
most_names version = if version == 1 then 1 else 8
