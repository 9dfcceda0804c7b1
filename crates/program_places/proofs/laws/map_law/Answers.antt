use Rattle.program_places.proofs.Sound.{is_map}
use Rattle.program_places.proofs.laws.map_law.Goals as goal

pub returns : goal.returns
returns c = is_map
