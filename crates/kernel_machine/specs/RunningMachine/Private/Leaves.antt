-- What a part of a step leaves.
use Rattle.std.specs.Prelude.{◌≡◌, ℕ, ◌<◌, ◌-◌, ◌^◌, ◌++◌, true, false}
use Rattle.kernel_model.specs.KernelRecord.Kernel.{Kernel}
use Rattle.kernel_model.specs.KernelRecord.NotedEvents.{NotesAll}
use Rattle.kernel_model.specs.KernelRecord.Task.{is_guest_id}
use Rattle.kernel_model.specs.KernelDispatch.Dispatch.{CanDispatch}
use Rattle.kernel_calls.specs.CallAnswers.Outside.{Outside}
use Rattle.kernel_machine.specs.declared.running_machine.parts.Parts.{Parts}
use Rattle.kernel_machine.specs.RunningMachine.RepresentedKernels.{RepresentsKernel}
use Rattle.kernel_machine.specs.KernelSteps.Parts.{CanTurn}
use Rattle.kernel_machine.specs.KernelSteps.Stepped.{Stepped}

-- the code leaves what the part of the step leaves
pub record Leaves (p : Parts) (old new : Outside) (x : Stepped) : Type 0 where
  -- the parts represent its kernel
  pub represents : RepresentsKernel p x.kernel
  -- its bytes went to the output
  pub bytes : new.shown ≡ old.shown ++ x.bytes
  -- its events went to the log, or the first of them where that failed
  pub notes : NotesAll old.noted new.noted old.failed new.failed x.events

-- a turn may be taken, and the task with this number runs, a guest
pub record RunsGuest (task : ℕ) (k : Kernel) : Type 0 where
  -- a turn may be taken
  pub can : CanTurn k
  -- the number is that of the running task
  pub is : task ≡ k.lists.running
  -- which is a guest
  pub guest : is_guest_id k.lists.running ≡ true

-- a turn may be taken, and the task with this number runs, a resident, or nobody does
pub record RunsNoGuest (task : ℕ) (k : Kernel) : Type 0 where
  -- a turn may be taken
  pub can : CanTurn k
  -- the number is that of the running task, or 0 where nobody runs
  pub is : task ≡ k.lists.running
  -- it is none of a guest
  pub none : is_guest_id k.lists.running ≡ false

-- a turn may be taken, and the task with this number runs
pub record RunsNumber (task : ℕ) (k : Kernel) : Type 0 where
  -- a turn may be taken
  pub can : CanTurn k
  -- the running task is the one that is meant
  pub is : k.lists.running ≡ task

-- what the devices and dispatch ask
pub record CanServe (k : Kernel) : Type 0 where
  -- a dispatch may follow
  pub dispatch : CanDispatch k.lists k.regs
  -- there may be one tick more
  pub tick : k.lists.tick < 2 ^ 32 - 1
