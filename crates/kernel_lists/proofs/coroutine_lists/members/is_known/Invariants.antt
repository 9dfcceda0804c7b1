use Rattle.std.proofs.Common.{◌≡◌}
use Rattle.kernel_lists.specs.LinkedList.Places.{has}
use Rattle.kernel_lists.specs.Coroutines.Refusals.{is_known}
use Rattle.kernel_lists.proofs.coroutine_lists.members.is_known.Given as goal

abbrev pub invariant-loop-known : goal.invariant-loop-known
invariant-loop-known l = is_known l.store l.t l.c ≡ has l.c l.known-iterator
