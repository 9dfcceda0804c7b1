use Rattle.module_text.proofs.Complete.{complete}
use Rattle.module_text.proofs.Sound.{sound}
use Rattle.module_text.proofs.laws.module_law.Goals as goal

pub returns-clause-sound : goal.returns-clause-sound
returns-clause-sound c = sound

pub returns-clause-complete : goal.returns-clause-complete
returns-clause-complete c = complete
