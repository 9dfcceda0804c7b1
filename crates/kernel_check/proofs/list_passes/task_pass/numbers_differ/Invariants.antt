use Rattle.kernel_lists.specs.TaskBlock.TaskChain.{tasks_in}
use Rattle.kernel_check.proofs.ListPasses.ClaimedWalks.{IsGoing}
use Rattle.kernel_check.proofs.ListPasses.TaskWalks.{Once}
use Rattle.kernel_check.proofs.list_passes.task_pass.numbers_differ.Given as goal

abbrev pub invariant-loop-t : goal.invariant-loop-t
invariant-loop-t l = IsGoing (Once l.store) (λ t. Unit {0}) l.t-iterator (tasks_in l.store)
