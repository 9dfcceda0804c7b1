use Rattle.kernel_lists.specs.TaskBlock.TaskChain.{tasks_in}
use Rattle.kernel_check.proofs.ListPasses.ClaimedWalks.{IsGoing}
use Rattle.kernel_check.proofs.QueueRules.{AreValidWork, IsKnown}
use Rattle.kernel_check.proofs.queue_pass.are_valid_work_queues.Given as goal

abbrev pub invariant-loop-t : goal.invariant-loop-t
invariant-loop-t l = IsGoing (AreValidWork l.store) (IsKnown l.store) l.t-iterator (tasks_in l.store)
