use Rattle.std.proofs.Common.{◌+◌, ◌∙◌, ap, refl}
use Rattle.kernel_lists.specs.TaskBlock.Lists.{coroutine_link, first_coroutine}
use Rattle.kernel_lists.specs.Coroutines.CoroutineWords.{coroutine_size}
use Rattle.store_claims.proofs.ListClaims.ListAnswers.{list-answer}
use Rattle.store_claims.proofs.list_claims.lists.claim_coroutines.Goals as goal

pub returns-clause-answer : goal.returns-clause-answer
returns-clause-answer c =
    list-answer c.args.store.now coroutine_link coroutine_link coroutine_size c.args.words.now (first_coroutine c.args.t) c.address_of-head.result c.claim_list.result refl (c.address_of-head.ensures ∙ ap (λ i. c.args.t + i) c.index.ensures) c.claim_list.ensures.answer
