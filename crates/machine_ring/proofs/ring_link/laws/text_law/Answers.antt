use Rattle.machine_ring.proofs.RingLink.RingTexts.{complete, sound}
use Rattle.machine_ring.proofs.ring_link.laws.text_law.Goals as goal

pub returns-clause-sound : goal.returns-clause-sound
returns-clause-sound c = sound

pub returns-clause-complete : goal.returns-clause-complete
returns-clause-complete c = complete
