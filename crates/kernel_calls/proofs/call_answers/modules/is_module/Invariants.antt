use Rattle.std.proofs.Common.{◌≡◌}
use Rattle.kernel_lists.specs.LinkedList.Places.{has}
use Rattle.kernel_lists.specs.TaskBlock.Lists.{modules_in}
use Rattle.kernel_calls.proofs.call_answers.modules.is_module.Given as goal

abbrev pub invariant-loop-n : goal.invariant-loop-n
invariant-loop-n l = has l.m (modules_in l.store) ≡ has l.m l.n-iterator
