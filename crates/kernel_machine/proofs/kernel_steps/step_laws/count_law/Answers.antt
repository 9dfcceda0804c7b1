use Rattle.kernel_machine.proofs.KernelSteps.NumbersKept.{step-period, step-size}
use Rattle.kernel_machine.proofs.KernelSteps.Runs.{step-counts}
use Rattle.kernel_machine.proofs.kernel_steps.step_laws.count_law.Goals as goal

pub returns-clause-steps : goal.returns-clause-steps
returns-clause-steps c = λ k goes. step-counts k goes

pub returns-clause-period : goal.returns-clause-period
returns-clause-period c = λ k h. step-period k h

pub returns-clause-size : goal.returns-clause-size
returns-clause-size c = λ k h. step-size k h
