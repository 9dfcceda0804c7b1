use Rattle.store_claims.proofs.AdoptionLaw.AllPasses.{all-passes}
use Rattle.store_claims.proofs.adoption_law.pass_laws.passes_law.Goals as goal

pub returns : goal.returns
returns c = all-passes
