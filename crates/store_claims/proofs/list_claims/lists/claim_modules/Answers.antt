use Rattle.std.proofs.Common.{◌+◌}
use Rattle.kernel_lists.proofs.LinkedList.Walks.{no_offset}
use Rattle.kernel_lists.specs.TaskBlock.RootWords.{first_module}
use Rattle.kernel_lists.specs.TaskBlock.Lists.{module_link}
use Rattle.store_claims.specs.ListClaims.ListWords.{module_size_in}
use Rattle.store_claims.proofs.ListClaims.ListAnswers.{list-answer, list-claimed}
use Rattle.store_claims.proofs.list_claims.lists.claim_modules.Goals as goal

pub returns-clause-answer : goal.returns-clause-answer
returns-clause-answer c =
    list-answer c.args.store.now module_link (λ p. p + 0) (module_size_in c.args.store.now) c.args.words.now first_module c.address.result c.claim_list.result no_offset c.address.ensures c.claim_list.ensures.answer

pub returns-clause-claimed : goal.returns-clause-claimed
returns-clause-claimed c =
    list-claimed c.args.store.now module_link (λ p. p + 0) (module_size_in c.args.store.now) c.args.words.now c.claim_list.new.claims first_module c.address.result c.claim_list.result no_offset c.address.ensures c.claim_list.ensures.claimed
