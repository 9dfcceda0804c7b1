use Rattle.std.proofs.Common.{◌≡◌}
use Rattle.std.specs.List.{AllByRecursion, list_any}
use Rattle.kernel_lists.specs.LinkedList.Places.{has}
use Rattle.kernel_lists.specs.TaskBlock.Lists.{coroutines_in}
use Rattle.kernel_lists.specs.TaskBlock.TaskChain.{tasks_in}
use Rattle.kernel_model.specs.KernelRecord.KernelRanges.{CanWalkTask}
use Rattle.kernel_calls.proofs.block_calls.uses.is_coroutine.Given as goal

abbrev pub invariant-loop-t : goal.invariant-loop-t
invariant-loop-t l =
    (list_any (λ t. has l.v (coroutines_in l.store t)) (tasks_in l.store) ≡ list_any (λ t. has l.v (coroutines_in l.store t)) l.t-iterator)
    × AllByRecursion (CanWalkTask l.store) l.t-iterator
