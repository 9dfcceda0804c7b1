use Rattle.kernel_machine.proofs.KernelSteps.DispatchKept.{dispatch-numbers, runs-first}
use Rattle.kernel_machine.proofs.kernel_steps.dispatch_laws.dispatch_law.Goals as goal

pub returns-clause-runs : goal.returns-clause-runs
returns-clause-runs c = λ words l r can v. runs-first words l r can v

pub returns-clause-numbers : goal.returns-clause-numbers
returns-clause-numbers c = λ words l r. dispatch-numbers words l r
