use Rattle.tripos_machine.proofs.StepSizes.{step-count, step-size}
use Rattle.tripos_machine.proofs.laws.step_law.Goals as goal

pub returns-clause-size : goal.returns-clause-size
returns-clause-size c = step-size

pub returns-clause-count : goal.returns-clause-count
returns-clause-count c = step-count
