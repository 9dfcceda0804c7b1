use Rattle.store_claims.specs.WordClaims.Marks.{AreOpen}
use Rattle.store_claims.proofs.word_claims.claims.Claims.are_open.Given as goal

abbrev pub invariant-loop-i : goal.invariant-loop-i
invariant-loop-i l = AreOpen l.self l.a l.i
