use Rattle.machine_ring.proofs.RingRuns.{run-more, run-stopped}
use Rattle.machine_ring.proofs.laws.run_law.Goals as goal

pub returns-clause-more : goal.returns-clause-more
returns-clause-more c = run-more

pub returns-clause-stopped : goal.returns-clause-stopped
returns-clause-stopped c = run-stopped
