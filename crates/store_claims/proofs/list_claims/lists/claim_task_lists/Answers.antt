use Rattle.std.proofs.lemmas.Bool.{false≢true}
use Rattle.kernel_lists.specs.TaskBlock.TaskChain.{tasks_in}
use Rattle.store_claims.proofs.ListClaims.TaskWalk.{goes, stuck}
use Rattle.store_claims.proofs.list_claims.lists.claim_task_lists.Goals as goal

pub returns-then-not-claim_task-clause-answer : goal.returns-then-not-claim_task-clause-answer
returns-then-not-claim_task-clause-answer c = (
  λ t. absurd (false≢true t),
  λ all. stuck c.args.store.now c.args.words.now c.loop-t.words c.loop-t.t-iterator (tasks_in c.args.store.now) c.in-Some.t c.next.new.self c.loop-t.invariant c.in-Some.ensures.steps
      c.claim_task.result c.claim_task.ensures.answer c.if-not-claim_task.true all,
)

pub loop-t-preserved : goal.loop-t-preserved
loop-t-preserved c =
    goes c.args.store.now c.args.words.now c.loop-t.words c.loop-t.t-iterator (tasks_in c.args.store.now) c.in-Some.t c.next.new.self c.loop-t.invariant c.in-Some.ensures.steps
    c.claim_task.new.words (c.claim_task.ensures.answer.0 c.if-not-claim_task.false) c.if-not-claim_task.ensures.claimed c.claim_task.ensures.size
