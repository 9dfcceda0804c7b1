use Rattle.bare_machine.proofs.Runs.{run-more, run-steps, run-stopped}
use Rattle.bare_machine.proofs.laws.run_law.Goals as goal

pub returns-clause-more : goal.returns-clause-more
returns-clause-more c = run-more

pub returns-clause-stopped : goal.returns-clause-stopped
returns-clause-stopped c = run-stopped

pub returns-clause-steps : goal.returns-clause-steps
returns-clause-steps c = run-steps
