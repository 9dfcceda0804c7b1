use Rattle.kernel_model.specs.KernelRecord.Image.{image}
use Rattle.kernel_machine.proofs.KernelSteps.QuietDevices.{unserved-stays}
use Rattle.kernel_machine.proofs.KernelSteps.QuietDispatch.{dispatch-stays}
use Rattle.kernel_machine.proofs.KernelSteps.RunningCaller.{valid-runs}
use Rattle.kernel_machine.proofs.KernelSteps.StoredWords.{valid-store}
use Rattle.kernel_machine.proofs.kernel_steps.quiet_laws.settled_law.Goals as goal

pub returns-clause-dispatch : goal.returns-clause-dispatch
returns-clause-dispatch c = λ k h goes. dispatch-stays (image k) k (valid-store k h) (valid-runs k h goes)

pub returns-clause-unserved : goal.returns-clause-unserved
returns-clause-unserved c = λ k h. unserved-stays (image k) k (valid-store k h)
