use Rattle.kernel_model.specs.KernelRecord.Image.{image}
use Rattle.kernel_machine.proofs.KernelSteps.QuietMachines.{idle-valid, idle-image}
use Rattle.kernel_machine.proofs.KernelSteps.QuietSpans.{valid-ready, idle-run}
use Rattle.kernel_machine.proofs.kernel_steps.quiet_laws.idle_law.Goals as goal

pub returns-clause-run : goal.returns-clause-run
returns-clause-run c = λ m k h goes none q. idle-run m (image k) k (valid-ready k h goes) none q

pub returns-clause-valid : goal.returns-clause-valid
returns-clause-valid c = λ m k h goes none few q. idle-valid m k h goes none few q

pub returns-clause-image : goal.returns-clause-image
returns-clause-image c = λ s m k h is. idle-image s m k h is
