-- Which task runs, as the fields of all tasks tell it.
use Rattle.std.specs.Prelude.{◌≡◌, ℕ}
use Rattle.std.specs.List.{AllByRecursion}
use Rattle.kernel_model.specs.KernelRecord.Lists.{Lists}
use Rattle.kernel_model.specs.KernelRecord.Task.{Task}
use Rattle.kernel_model.specs.KernelRecord.ValidTasks.{runs}

-- a task with the field of one that runs has this number
abbrev pub RunsAs : ℕ → Task → Type 0
RunsAs id t = t.field ≡ runs → t.id ≡ id

-- a task with this number has the field of one that runs
abbrev pub RunsIf : ℕ → Task → Type 0
RunsIf id t = t.id ≡ id → t.field ≡ runs

-- no task but the running one has that field
abbrev pub RunsAlone : Lists → Type 0
RunsAlone l = AllByRecursion (RunsAs l.running) l.tasks

-- the running one, where there is one, has it
abbrev pub RunsAlive : Lists → Type 0
RunsAlive l = AllByRecursion (RunsIf l.running) l.tasks
