use Rattle.std.proofs.Common.{◌+◌}
use Rattle.kernel_lists.proofs.LinkedList.Walks.{no_offset}
use Rattle.kernel_lists.specs.TaskBlock.RootWords.{first_task}
use Rattle.kernel_lists.specs.TaskBlock.TaskChain.{task_link}
use Rattle.kernel_model.specs.KernelRecord.KernelRanges.{task_size_in}
use Rattle.store_claims.proofs.ListClaims.ListAnswers.{are-blocks, chain-walk, list-answer, list-claimed, on-true}
use Rattle.store_claims.proofs.list_claims.lists.claim_chain.Goals as goal

pub returns-clause-answer : goal.returns-clause-answer
returns-clause-answer c =
    list-answer c.args.store.now task_link (λ p. p + 0) (task_size_in c.args.store.now) c.args.words.now first_task c.address.result c.claim_list.result no_offset c.address.ensures c.claim_list.ensures.answer

pub returns-clause-walk : goal.returns-clause-walk
returns-clause-walk c = on-true c.claim_list.result _ (λ t. chain-walk c.args.store.now c.args.words.now c.requires ((returns-clause-answer c).0 t))

pub returns-clause-blocks : goal.returns-clause-blocks
returns-clause-blocks c = on-true c.claim_list.result _ (λ t. are-blocks c.args.store.now c.args.words.now c.requires ((returns-clause-answer c).0 t))

pub returns-clause-claimed : goal.returns-clause-claimed
returns-clause-claimed c =
    list-claimed c.args.store.now task_link (λ p. p + 0) (task_size_in c.args.store.now) c.args.words.now c.claim_list.new.claims first_task c.address.result c.claim_list.result no_offset c.address.ensures c.claim_list.ensures.claimed
