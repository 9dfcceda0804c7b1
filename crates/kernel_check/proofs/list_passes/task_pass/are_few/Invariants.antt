use Rattle.kernel_check.proofs.ListPasses.TaskWalks.{IsCounted}
use Rattle.kernel_check.proofs.list_passes.task_pass.are_few.Given as goal

abbrev pub invariant-loop-t : goal.invariant-loop-t
invariant-loop-t l = IsCounted l.store l.count l._t-iterator
