use Rattle.kernel_lists.specs.PacketQueue.Queue.{queue_at}
use Rattle.kernel_check.proofs.QueueRules.{IsRising}
use Rattle.kernel_check.proofs.queue_pass.ticks_rise.Given as goal

abbrev pub invariant-loop-p : goal.invariant-loop-p
invariant-loop-p l = IsRising l.store l.last l.p-iterator (queue_at l.store l.head)
