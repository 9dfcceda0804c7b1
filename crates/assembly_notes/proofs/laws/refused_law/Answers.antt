use Rattle.assembly_notes.proofs.RefusedTexts.{silent_refused}
use Rattle.assembly_notes.proofs.laws.refused_law.Goals as goal

pub returns : goal.returns
returns c = silent_refused
