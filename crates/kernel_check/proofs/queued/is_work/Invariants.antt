use Rattle.kernel_check.proofs.QueuedPackets.{IsLooking}
use Rattle.kernel_check.proofs.queued.is_work.Given as goal

abbrev pub invariant-loop-t : goal.invariant-loop-t
invariant-loop-t l = IsLooking l.store l.p l.t-iterator
