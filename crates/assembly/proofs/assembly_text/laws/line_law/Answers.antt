use Rattle.assembly.proofs.AssemblyText.SaidLines.{line-said, said-line}
use Rattle.assembly.proofs.assembly_text.laws.line_law.Goals as goal

pub returns-clause-sound : goal.returns-clause-sound
returns-clause-sound c = line-said

pub returns-clause-complete : goal.returns-clause-complete
returns-clause-complete c = said-line
