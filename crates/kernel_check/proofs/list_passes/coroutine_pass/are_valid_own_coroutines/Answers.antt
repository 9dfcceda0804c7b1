use Rattle.std.proofs.Common.{◌∙◌, refl, sym}
use Rattle.std.proofs.lemmas.Bool.{false≢true}
use Rattle.kernel_check.proofs.ListPasses.CoroutineWalks.{left-idle, own-bodies, own-claimable, own-coroutines}
use Rattle.kernel_check.proofs.list_passes.coroutine_pass.are_valid_own_coroutines.Goals as goal

pub returns-then-not-are_valid_bodies-clause-answer : goal.returns-then-not-are_valid_bodies-clause-answer
returns-then-not-are_valid_bodies-clause-answer c =
    (λ t. absurd (false≢true t), λ h. sym c.if-not-are_valid_bodies.true ∙ c.are_valid_bodies.ensures.1 (own-bodies c.args.store.now c.args.t h.valid))

pub returns-then-not-claim_active-clause-answer : goal.returns-then-not-claim_active-clause-answer
returns-then-not-claim_active-clause-answer c = (
  λ t. absurd (false≢true t),
  λ h. sym c.if-not-claim_active.true ∙ c.claim_active.ensures.answer.1 (own-claimable c.args.store.now c.args.t c.open_coroutines.new.own c.requires.can c.open_coroutines.ensures h.valid),
)

pub parents_tell-requires-clause-idle : goal.parents_tell-requires-clause-idle
parents_tell-requires-clause-idle c = left-idle c.args.store.now c.args.t c.open_coroutines.new.own c.requires.can c.open_coroutines.ensures c.claim_active.new.own c.if-not-claim_active.ensures.claimed

pub returns-then-not-parents_tell-clause-answer : goal.returns-then-not-parents_tell-clause-answer
returns-then-not-parents_tell-clause-answer c = (λ t. absurd (false≢true t), λ h. sym c.if-not-parents_tell.true ∙ c.parents_tell.ensures.1 h.parents)

pub returns-clause-answer : goal.returns-clause-answer
returns-clause-answer c = (
  λ t. record {
    valid = own-coroutines c.args.store.now c.args.t c.open_coroutines.new.own c.requires.can c.open_coroutines.ensures (c.are_valid_bodies.ensures.0 c.if-not-are_valid_bodies.false)
        (c.claim_active.ensures.answer.0 c.if-not-claim_active.false);
    parents = c.parents_tell.ensures.0 c.if-not-parents_tell.false;
  },
  λ h. refl,
)
