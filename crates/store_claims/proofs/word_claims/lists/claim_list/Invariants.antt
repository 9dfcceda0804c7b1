use Rattle.std.proofs.Common.{◌+◌}
use Rattle.store_claims.proofs.WordClaims.ClaimWalk.{Walked}
use Rattle.store_claims.proofs.word_claims.lists.claim_list.Given as goal

abbrev pub invariant-loop-i : goal.invariant-loop-i
invariant-loop-i g l = Walked l.store (λ p. p + l.offset) (g.K.NodeKind.words_in l.kind l.store) l.fn.claims l.claims l.head l.at l.i
