use Rattle.std.proofs.Common.{◌≡◌}
use Rattle.kernel_lists.specs.LinkedList.Places.{has}
use Rattle.kernel_lists.specs.TaskBlock.Lists.{coroutines_in}
use Rattle.kernel_calls.proofs.block_calls.uses.has_coroutine.Given as goal

abbrev pub invariant-loop-c : goal.invariant-loop-c
invariant-loop-c l = has l.v (coroutines_in l.store l.t) ≡ has l.v l.c-iterator
