use Rattle.std.proofs.Common.{◌≡◌}
use Rattle.kernel_lists.specs.LinkedList.Places.{has}
use Rattle.kernel_lists.specs.TaskBlock.TaskChain.{tasks_in}
use Rattle.kernel_calls.proofs.block_calls.uses.is_task.Given as goal

abbrev pub invariant-loop-t : goal.invariant-loop-t
invariant-loop-t l = has l.v (tasks_in l.store) ≡ has l.v l.t-iterator
