use Rattle.std.proofs.Common.{◌≡◌, ◌+◌}
use Rattle.std.specs.Prelude.{slice_range}
use Rattle.kernel_lists.specs.LinkedList.Places.{has}
use Rattle.kernel_lists.specs.TaskBlock.Versions.{head_words}
use Rattle.kernel_calls.proofs.module_calls.modules_of.has_further_module.Given as goal

abbrev pub invariant-loop-i : goal.invariant-loop-i
invariant-loop-i l =
    has l.m (slice_range l.store (l.t + 23) (l.t + head_words l.store)) ≡ has l.m (slice_range l.store (l.t + (21 + l.i)) (l.t + head_words l.store))
