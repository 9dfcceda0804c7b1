use Rattle.machine_ring.proofs.RingLink.LawfulRings.{is_lawful}
use Rattle.machine_ring.proofs.ring_link.read.read_ring.Goals as goal

pub returns-clause-lawful : goal.returns-clause-lawful
returns-clause-lawful c = is_lawful c.args.text.now _ c.requires c.whole_ring.ensures
