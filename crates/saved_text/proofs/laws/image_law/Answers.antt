use Rattle.saved_text.proofs.CompleteText.{complete}
use Rattle.saved_text.proofs.Sound.{sound}
use Rattle.saved_text.proofs.laws.image_law.Goals as goal

pub returns-clause-sound : goal.returns-clause-sound
returns-clause-sound c = sound

pub returns-clause-complete : goal.returns-clause-complete
returns-clause-complete c = complete
