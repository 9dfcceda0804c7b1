use Rattle.kernel_lists.specs.TaskBlock.TaskChain.{tasks_in}
use Rattle.kernel_check.proofs.ListPasses.TaskWalks.{IsFalling}
use Rattle.kernel_check.proofs.list_passes.task_pass.priorities_fall.Given as goal

abbrev pub invariant-loop-t : goal.invariant-loop-t
invariant-loop-t l = IsFalling l.store l.above l.t-iterator (tasks_in l.store)
