use Rattle.machine_ring.proofs.RingLink.RingRefusals.{codes_law, end_law, line_law}
use Rattle.machine_ring.proofs.ring_link.laws.refusal_law.Goals as goal

pub returns-clause-line : goal.returns-clause-line
returns-clause-line c = line_law

pub returns-clause-end : goal.returns-clause-end
returns-clause-end c = end_law

pub returns-clause-codes : goal.returns-clause-codes
returns-clause-codes c = codes_law
