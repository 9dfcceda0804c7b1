use Rattle.store_claims.proofs.AdoptionLaw.OwnedOnce.{owned-once}
use Rattle.store_claims.proofs.AdoptionLaw.ClaimableStore.{from-claimable, to-claimable, valid-claimable}
use Rattle.store_claims.proofs.adoption_law.claim_laws.counted_law.Goals as goal

pub returns-clause-claimable : goal.returns-clause-claimable
returns-clause-claimable c = λ s m tiled d. (to-claimable s m d, from-claimable s m d tiled)

pub returns-clause-valid : goal.returns-clause-valid
returns-clause-valid c = valid-claimable

pub returns-clause-owns : goal.returns-clause-owns
returns-clause-owns c = λ s root tiled claims. owned-once s root tiled claims.once claims.used
