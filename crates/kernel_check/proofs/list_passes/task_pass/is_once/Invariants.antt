use Rattle.kernel_lists.specs.TaskBlock.TaskChain.{tasks_in}
use Rattle.kernel_check.proofs.ListPasses.TaskWalks.{IsCounting}
use Rattle.kernel_check.proofs.list_passes.task_pass.is_once.Given as goal

abbrev pub invariant-loop-t : goal.invariant-loop-t
invariant-loop-t l = IsCounting l.store l.id l.met l.t-iterator (tasks_in l.store)
