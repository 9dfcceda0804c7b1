use Rattle.machine_ring.proofs.RingEvents.{rounds-acknowledged, rounds-ahead, rounds-count, rounds-events, rounds-prefix, rounds-waiting}
use Rattle.machine_ring.proofs.laws.rounds_law.Goals as goal

pub returns-clause-events : goal.returns-clause-events
returns-clause-events c = rounds-events

pub returns-clause-prefix : goal.returns-clause-prefix
returns-clause-prefix c = rounds-prefix

pub returns-clause-count : goal.returns-clause-count
returns-clause-count c = rounds-count

pub returns-clause-acknowledged : goal.returns-clause-acknowledged
returns-clause-acknowledged c = rounds-acknowledged

pub returns-clause-ahead : goal.returns-clause-ahead
returns-clause-ahead c = rounds-ahead

pub returns-clause-waiting : goal.returns-clause-waiting
returns-clause-waiting c = rounds-waiting
