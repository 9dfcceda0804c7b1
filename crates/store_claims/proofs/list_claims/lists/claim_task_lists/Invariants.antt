use Rattle.kernel_lists.specs.TaskBlock.TaskChain.{tasks_in}
use Rattle.store_claims.proofs.ListClaims.TaskWalk.{IsGoing}
use Rattle.store_claims.proofs.list_claims.lists.claim_task_lists.Given as goal

abbrev pub invariant-loop-t : goal.invariant-loop-t
invariant-loop-t l = IsGoing l.store l.fn.words l.words l.t-iterator (tasks_in l.store)
