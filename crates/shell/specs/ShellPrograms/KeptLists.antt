-- What stays where the shell clears up or starts a program.
use Rattle.std.specs.Prelude.{◌≡◌, ℕ, ◌≤◌, true, false}
use Rattle.kernel_model.specs.KernelRecord.Changes.{work_of}
use Rattle.kernel_model.specs.KernelRecord.Lists.{Lists, has_task}
use Rattle.kernel_model.specs.KernelRecord.Running.{RunsAlone}
use Rattle.kernel_model.specs.KernelRecord.Task.{is_guest_id}
use Rattle.kernel_model.specs.KernelRecord.Versions.{highest_id_of}

-- All but the blocks, the modules and the tasks; and of the tasks the residents with their queues.
pub record KeepsResidents (l m : Lists) : Type 0 where
  -- what is neither a block, a module nor a task
  pub rest : m ≡ record l { blocks = m.blocks; modules = m.modules; tasks = m.tasks }
  -- which residents there are
  pub there : (id : ℕ) → is_guest_id id ≡ false → has_task id m.tasks ≡ has_task id l.tasks
  -- their work queues
  pub work : (id : ℕ) → is_guest_id id ≡ false → work_of id m.tasks ≡ work_of id l.tasks

-- A resident runs, and no other task has the field of one that runs.
pub record ResidentAlone (l : Lists) : Type 0 where
  -- the running task is a resident, or there is none
  pub resident : is_guest_id l.running ≡ false
  -- no other task has the field of one that runs
  pub field : RunsAlone l

-- There is a guest with the number.
pub record HasProgram (version id : ℕ) (l : Lists) : Type 0 where
  -- the numbers of guests begin with 5
  pub low : 5 ≤ id
  -- and end with the highest of the version
  pub high : id ≤ highest_id_of version
  -- the task is one of the chain
  pub there : has_task id l.tasks ≡ true
