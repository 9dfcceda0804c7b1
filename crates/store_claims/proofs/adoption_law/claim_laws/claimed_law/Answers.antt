use Rattle.store_claims.proofs.AdoptionLaw.OwnedOnce.{claimed-once, claimed-used, owned-once}
use Rattle.store_claims.proofs.AdoptionLaw.BlockData.{one-block}
use Rattle.store_claims.proofs.adoption_law.claim_laws.claimed_law.Goals as goal

pub returns-clause-owns : goal.returns-clause-owns
returns-clause-owns c = owned-once

pub returns-clause-once : goal.returns-clause-once
returns-clause-once c = λ s a h. claimed-once s h a

pub returns-clause-used : goal.returns-clause-used
returns-clause-used c = claimed-used

pub returns-clause-lodged : goal.returns-clause-lodged
returns-clause-lodged c = λ bs end p n f some all. one-block 200 bs end p n f some all
