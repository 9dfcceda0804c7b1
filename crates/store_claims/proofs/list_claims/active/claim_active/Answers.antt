use Rattle.std.proofs.Common.{◌∙◌, inl, inr, ◌<◌, length, refl, sym, arith}
use Rattle.std.proofs.lemmas.Bool.{false≢true}
use Rattle.store_claims.specs.WordClaims.Marks.{AreOpen}
use Rattle.store_claims.proofs.WordClaims.ClaimedWords.{open-low}
use Rattle.store_claims.proofs.ListClaims.OutwardWalk.{ended, ended-claimed, filled, filled-claimed, next-open, stepped}
use Rattle.store_claims.proofs.list_claims.active.claim_active.Goals as goal

pub returns-then-c-eq0-clause-answer : goal.returns-then-c-eq0-clause-answer
returns-then-c-eq0-clause-answer c =
    (λ y. ended _ _ _ _ _ _ c.loop-i.invariant (inl (sym c.word-c.ensures ∙ c.if-c-eq0.true)) (omega (arith, c.loop-i.auto.i-end, c.size-i-end.ensures)), λ can. refl)

pub returns-then-c-t-clause-answer : goal.returns-then-c-t-clause-answer
returns-then-c-t-clause-answer c =
    (λ y. ended _ _ _ _ _ _ c.loop-i.invariant (inr (sym c.word-c.ensures ∙ c.if-c-t.true)) (omega (arith, c.loop-i.auto.i-end, c.size-i-end.ensures)), λ can. refl)

pub returns-then-not-claim-clause-answer : goal.returns-then-not-claim-clause-answer
returns-then-not-claim-clause-answer c = (
  λ y. absurd (false≢true y),
  λ can. sym c.if-not-claim.true
      ∙ c.claim.ensures.answer.1 (next-open _ _ _ _ _ _ c.loop-i.invariant c.word-c.result (omega (arith, c.loop-i-test.true, c.size-i-end.ensures)) c.word-c.ensures c.if-c-eq0.false c.if-c-t.false can),
)

pub address_of-at-requires-in-loop-i : goal.address_of-at-requires-in-loop-i
address_of-at-requires-in-loop-i c =
    let all : AreOpen c.loop-i.own c.word-c.result 1 = c.claim.ensures.answer.0 c.if-not-claim.false in
    let low : c.word-c.result < length c.loop-i.own = open-low c.loop-i.own c.word-c.result (all c.word-c.result (omega arith) (omega arith)) in
    omega (arith, low, c.loop-i.invariant.claimed.size, c.requires.room)

pub loop-i-preserved : goal.loop-i-preserved
loop-i-preserved c =
    stepped _ _ _ _ _ _ c.loop-i.invariant c.word-c.result c.claim.new.self c.address_of-at-in-loop-i.result c.word-c.ensures c.if-c-eq0.false c.if-c-t.false
    (c.claim.ensures.answer.0 c.if-not-claim.false) c.if-not-claim.ensures.claimed c.address_of-at-in-loop-i.ensures

pub returns-clause-answer : goal.returns-clause-answer
returns-clause-answer c =
    (λ y. filled _ _ _ _ _ _ c.loop-i.invariant (omega (arith, c.loop-i.auto.i-end, c.loop-i-test.false, c.size-i-end.ensures)), λ can. refl)

pub returns-then-c-eq0-clause-claimed : goal.returns-then-c-eq0-clause-claimed
returns-then-c-eq0-clause-claimed c = ended-claimed _ _ _ _ _ _ c.loop-i.invariant (inl (sym c.word-c.ensures ∙ c.if-c-eq0.true)) (omega (arith, c.loop-i.auto.i-end, c.size-i-end.ensures))

pub returns-then-c-t-clause-claimed : goal.returns-then-c-t-clause-claimed
returns-then-c-t-clause-claimed c = ended-claimed _ _ _ _ _ _ c.loop-i.invariant (inr (sym c.word-c.ensures ∙ c.if-c-t.true)) (omega (arith, c.loop-i.auto.i-end, c.size-i-end.ensures))

pub returns-clause-claimed : goal.returns-clause-claimed
returns-clause-claimed c = filled-claimed _ _ _ _ _ _ c.loop-i.invariant (omega (arith, c.loop-i.auto.i-end, c.loop-i-test.false, c.size-i-end.ensures))
