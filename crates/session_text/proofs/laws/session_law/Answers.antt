use Rattle.session_text.proofs.Complete.{complete}
use Rattle.session_text.proofs.Sound.{sound}
use Rattle.session_text.proofs.laws.session_law.Goals as goal

pub returns-clause-sound : goal.returns-clause-sound
returns-clause-sound c = sound

pub returns-clause-complete : goal.returns-clause-complete
returns-clause-complete c = complete
