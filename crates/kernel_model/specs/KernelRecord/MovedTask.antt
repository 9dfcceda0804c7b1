-- A task of another priority, which has another place in the chain.
use Rattle.std.specs.Prelude.{ℕ, List}
use Rattle.kernel_model.specs.KernelRecord.Changes.{with_new_task, with_tasks}
use Rattle.kernel_model.specs.KernelRecord.Lists.{Lists}
use Rattle.kernel_model.specs.KernelRecord.Task.{Task}

-- the task with another priority
abbrev pub with_priority : ℕ → Task → Task
with_priority priority t = record t { priority = priority }

-- the lists with the task, which was not among the others of the chain, at its place by that priority
abbrev pub with_moved_task : ℕ → Task → List Task → Lists → Lists
with_moved_task priority t others l = with_new_task (with_priority priority t) (with_tasks others l)
