use Rattle.std.proofs.Common.{◌-◌}
use Rattle.store_claims.specs.WordClaims.Marks.{IsSet}
use Rattle.store_claims.proofs.word_claims.claims.Claims.set.Given as goal

abbrev pub invariant-loop-a : goal.invariant-loop-a
invariant-loop-a l = IsSet l.fn.self l.self-inside.marks.items l.first (l.a - l.first) l.value
