use Rattle.store_claims.proofs.AdoptionLaw.OneKernel.{has-kernel, one-kernel-in}
use Rattle.store_claims.proofs.adoption_law.laws.adoption_law.Goals as goal

pub returns-clause-exists : goal.returns-clause-exists
returns-clause-exists c = has-kernel

pub returns-clause-one : goal.returns-clause-one
returns-clause-one c = one-kernel-in
