use Rattle.kernel_machine.proofs.KernelSteps.Runs.{run-more, run-steps, run-stopped}
use Rattle.kernel_machine.proofs.kernel_steps.run_laws.run_law.Goals as goal

pub returns-clause-more : goal.returns-clause-more
returns-clause-more c = λ m n k. run-more m n k

pub returns-clause-stopped : goal.returns-clause-stopped
returns-clause-stopped c = λ n k stopped. run-stopped n k stopped

pub returns-clause-steps : goal.returns-clause-steps
returns-clause-steps c = λ n k. run-steps n k
