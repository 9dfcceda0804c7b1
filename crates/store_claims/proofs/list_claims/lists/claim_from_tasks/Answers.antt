use Rattle.std.proofs.lemmas.Bool.{false≢true}
use Rattle.std.specs.List.{flat_map}
use Rattle.kernel_lists.specs.TaskBlock.TaskChain.{tasks_in}
use Rattle.store_claims.specs.ListClaims.ListWords.{task_list_words, device_rest}
use Rattle.store_claims.proofs.ListClaims.JoinedClaims.{refused, went-on}
use Rattle.store_claims.proofs.list_claims.lists.claim_from_tasks.Goals as goal

pub returns-then-not-claim_task_lists : goal.returns-then-not-claim_task_lists
returns-then-not-claim_task_lists c = (λ t. absurd (false≢true t), λ all. refused c.args.words.now (flat_map (task_list_words c.args.store.now) (tasks_in c.args.store.now)) (device_rest c.args.store.now) c.claim_task_lists.result c.claim_task_lists.ensures.answer c.if-not-claim_task_lists.true all)

pub returns : goal.returns
returns c = went-on c.args.words.now c.claim_task_lists.new.words (flat_map (task_list_words c.args.store.now) (tasks_in c.args.store.now)) (device_rest c.args.store.now) c.claim_task_lists.result c.claim_devices.result c.claim_task_lists.ensures.answer c.if-not-claim_task_lists.false c.if-not-claim_task_lists.ensures.claimed c.claim_devices.ensures
