use Rattle.store_claims.proofs.ListClaims.JoinedClaims.{range-claimable, range-claimed}
use Rattle.store_claims.proofs.ListClaims.ListAnswers.{on-true, when-true}
use Rattle.store_claims.proofs.list_claims.residents.claim_range.Goals as goal

pub returns-clause-answer : goal.returns-clause-answer
returns-clause-answer c =
    let both = range-claimable c.args.words.now c.args.a c.args.n in (
      λ t. record { ends = tt; words = both.0 (c.claim.ensures.answer.0 t) },
      λ can. c.claim.ensures.answer.1 (both.1 can.words),
    )

pub returns-clause-claimed : goal.returns-clause-claimed
returns-clause-claimed c =
    on-true c.claim.result _ (λ t. range-claimed c.args.words.now c.claim.new.self c.args.a c.args.n (c.claim.ensures.answer.0 t) (when-true c.claim.result _ t c.claim.ensures.claimed))
