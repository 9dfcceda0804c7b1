-- A valid kernel.
use Rattle.std.specs.Prelude.{◌≡◌, ◌/◌, ◌≤◌, None}
use Rattle.std.specs.List.{AllByRecursion}
use Rattle.kernel_model.specs.KernelRecord.Between.{AreValidRegisters, AreValidResidents, FirstRuns}
use Rattle.kernel_model.specs.KernelRecord.Image.{HasPlainWords}
use Rattle.kernel_model.specs.KernelRecord.Kernel.{Kernel}
use Rattle.kernel_model.specs.KernelRecord.Ranges.{most_steps}
use Rattle.kernel_model.specs.KernelRecord.ValidLists.{AreValid}

-- the steps taken, and those at which keys are due, are no more than a machine may take
pub record HasSteps (k : Kernel) : Type 0 where
  -- the steps taken
  pub steps : k.steps ≤ most_steps
  -- those at which keys are due
  pub keys : AllByRecursion (λ key. key.0 ≤ most_steps) k.keys

-- a kernel whose lists are valid, as they are at every moment, and of which the rest holds between steps
pub record IsValid (k : Kernel) : Type 0 where
  -- its lists
  pub lists : AreValid k.lists
  -- the words that nobody owns
  pub plain : HasPlainWords k
  -- where it has not stopped, the ticks are the whole periods so far
  pub ticks : k.stop ≡ None → k.lists.tick ≡ k.steps / k.lists.period
  -- where it has not stopped, the first ready task runs
  pub running : k.stop ≡ None → FirstRuns k.lists
  -- the registers
  pub registers : AreValidRegisters k.lists k.regs
  -- what residents keep
  pub residents : AreValidResidents k
  -- the steps, and those of keys
  pub steps : HasSteps k
