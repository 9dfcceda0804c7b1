use Rattle.std.proofs.Common.{◌≡◌, ◌∙◌, ◌+◌, ◌<◌, ℕ, Bool, true, false, eqb, List, length, refl, sym, subst, arith}
use Rattle.std.proofs.lemmas.Bool.{eq-eqb, eqb-true, false≢true}
use Rattle.std.specs.Bool.{OnTrue}
use Rattle.store_claims.specs.WordClaims.Marks.{AreOpen, IsSet}
use Rattle.store_claims.proofs.WordClaims.ClaimedWords.{open-low}
use Rattle.store_claims.proofs.WordClaims.ClaimWalk.{Walked, all-claimed, must-end, next-open, stepped}
use Rattle.store_claims.proofs.word_claims.lists.claim_list.Goals as goal

pub returns-then-node-eq0-clause-answer : goal.returns-then-node-eq0-clause-answer
returns-then-node-eq0-clause-answer g c = (
  λ t. (all-claimed _ _ _ _ _ _ _ _ c.loop-i.invariant (sym c.word-node.ensures ∙ c.if-node-eq0.true) (omega (arith, c.loop-i.auto.i-end, c.size-i-end.ensures))).0,
  λ can. refl,
)

pub returns-then-node-eq0-clause-claimed : goal.returns-then-node-eq0-clause-claimed
returns-then-node-eq0-clause-claimed g c =
    (all-claimed _ _ _ _ _ _ _ _ c.loop-i.invariant (sym c.word-node.ensures ∙ c.if-node-eq0.true) (omega (arith, c.loop-i.auto.i-end, c.size-i-end.ensures))).1

pub returns-then-not-claim-clause-answer : goal.returns-then-not-claim-clause-answer
returns-then-not-claim-clause-answer g c = (
  λ t. absurd (false≢true t),
  λ can. sym c.if-not-claim.true
      ∙ c.claim.ensures.answer.1
      (subst (AreOpen c.loop-i.claims c.word-node.result) (sym c.words.ensures)
      (next-open _ _ _ _ _ _ _ _ c.loop-i.invariant c.word-node.result (omega (arith, c.loop-i-test.true, c.size-i-end.ensures)) c.word-node.ensures c.if-node-eq0.false can)),
)

pub address_of-at-requires : goal.address_of-at-requires
address_of-at-requires g c =
    let all : AreOpen c.loop-i.claims c.word-node.result c.words.result = c.claim.ensures.answer.0 c.if-not-claim.false in
    let inside : c.word-node.result + c.args.offset < length c.loop-i.claims =
    open-low c.loop-i.claims (c.word-node.result + c.args.offset) (all (c.word-node.result + c.args.offset) (omega arith) (omega (arith, c.requires.link c.word-node.result, c.words.ensures)))
    in
    omega (arith, inside, c.loop-i.invariant.claimed.size, c.requires.room)

pub loop-i-preserved : goal.loop-i-preserved
loop-i-preserved g c =
    let s : List ℕ = c.args.store.now in
    let link : ℕ → ℕ = λ p. p + c.args.offset in
    let sizes : ℕ → ℕ = g.K.NodeKind.words_in c.args.kind.now c.args.store.now in
    let p : ℕ = c.word-node.result in
    let all : AreOpen c.loop-i.claims p (sizes p) = subst (AreOpen c.loop-i.claims p) c.words.ensures (c.claim.ensures.answer.0 c.if-not-claim.false) in
    let set : IsSet c.loop-i.claims c.claim.new.self p (sizes p) false = subst (λ n. IsSet c.loop-i.claims c.claim.new.self p n false) c.words.ensures c.if-not-claim.ensures.claimed in
    subst (λ z. Walked s link sizes c.args.claims.now c.claim.new.self c.args.head z (c.loop-i.i + 1)) (sym c.address_of-at.ensures)
    (stepped s link sizes c.args.claims.now c.loop-i.claims c.args.head c.loop-i.at c.loop-i.i c.loop-i.invariant p c.claim.new.self c.word-node.ensures c.if-node-eq0.false all set)

pub returns-clause-answer : goal.returns-clause-answer
returns-clause-answer g c = (
  λ t. (all-claimed _ _ _ _ _ _ _ _ c.loop-i.invariant (sym c.word.ensures ∙ eqb-true c.word.result 0 t) (omega (arith, c.loop-i.auto.i-end, c.size-i-end.ensures))).0,
  λ can. eq-eqb c.word.result 0
      (c.word.ensures ∙ must-end _ _ _ _ _ _ _ _ c.loop-i.invariant (omega (arith, c.loop-i.auto.i-end, c.loop-i-test.false, c.size-i-end.ensures)) can),
)

on-true : (b : Bool) (P : Type 0) → (b ≡ true → P) → OnTrue b P
on-true true P h = h refl
on-true false P h = tt

pub returns-clause-claimed : goal.returns-clause-claimed
returns-clause-claimed g c =
    on-true (eqb c.word.result 0) _
    (λ t. (all-claimed _ _ _ _ _ _ _ _ c.loop-i.invariant (sym c.word.ensures ∙ eqb-true c.word.result 0 t) (omega (arith, c.loop-i.auto.i-end, c.size-i-end.ensures))).1)
