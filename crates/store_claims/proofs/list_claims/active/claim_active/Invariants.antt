use Rattle.store_claims.proofs.ListClaims.OutwardWalk.{Walked}
use Rattle.store_claims.proofs.list_claims.active.claim_active.Given as goal

abbrev pub invariant-loop-i : goal.invariant-loop-i
invariant-loop-i l = Walked l.store l.t l.fn.own l.own l.at l.i
