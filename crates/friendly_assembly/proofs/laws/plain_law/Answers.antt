use Rattle.friendly_assembly.proofs.PlainSources.{plain_told}
use Rattle.friendly_assembly.proofs.laws.plain_law.Goals as goal

pub returns : goal.returns
returns c = plain_told
