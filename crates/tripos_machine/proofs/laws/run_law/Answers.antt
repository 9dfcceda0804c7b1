use Rattle.tripos_machine.proofs.StateRuns.{run-bare, run-counts, run-full, run-later, run-more, run-steps, run-stopped}
use Rattle.tripos_machine.proofs.laws.run_law.Goals as goal

pub returns-clause-bare : goal.returns-clause-bare
returns-clause-bare c = run-bare

pub returns-clause-full : goal.returns-clause-full
returns-clause-full c = run-full

pub returns-clause-more : goal.returns-clause-more
returns-clause-more c = run-more

pub returns-clause-stopped : goal.returns-clause-stopped
returns-clause-stopped c = run-stopped

pub returns-clause-steps : goal.returns-clause-steps
returns-clause-steps c = run-steps

pub returns-clause-counts : goal.returns-clause-counts
returns-clause-counts c = run-counts

pub returns-clause-later : goal.returns-clause-later
returns-clause-later c = run-later
