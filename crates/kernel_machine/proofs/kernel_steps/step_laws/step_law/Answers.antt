use Rattle.kernel_machine.proofs.KernelSteps.StepKept.{step-left}
use Rattle.kernel_machine.proofs.kernel_steps.step_laws.step_law.Goals as goal

pub returns : goal.returns
returns c = step-left
