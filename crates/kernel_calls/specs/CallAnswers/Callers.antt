-- The task that makes a call: the running one.
use Rattle.std.specs.Prelude.{◌≡◌, true}
use Rattle.kernel_model.specs.KernelRecord.Lists.{Lists, has_task}
use Rattle.kernel_model.specs.KernelRecord.Running.{RunsAlive}
use Rattle.kernel_model.specs.KernelRecord.Task.{is_guest_id}

-- a guest runs, and its state says so
pub record HasCaller (l : Lists) : Type 0 where
  -- the running task is a guest
  pub guest : is_guest_id l.running ≡ true
  -- it is there
  pub there : has_task l.running l.tasks ≡ true
  -- its field is that of one that runs
  pub field : RunsAlive l
