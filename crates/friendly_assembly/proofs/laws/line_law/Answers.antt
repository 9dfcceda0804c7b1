use Rattle.friendly_assembly.proofs.ToldTexts.{told_made, told_wrong}
use Rattle.friendly_assembly.proofs.laws.line_law.Goals as goal

pub returns-clause-made : goal.returns-clause-made
returns-clause-made c = told_made

pub returns-clause-wrong : goal.returns-clause-wrong
returns-clause-wrong c = told_wrong
