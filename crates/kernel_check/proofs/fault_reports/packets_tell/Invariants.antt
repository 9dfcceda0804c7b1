use Rattle.kernel_lists.specs.PacketQueue.Queue.{queue_at}
use Rattle.kernel_check.proofs.ListPasses.ClaimedWalks.{IsGoing}
use Rattle.kernel_check.proofs.FaultReports.{PacketTells}
use Rattle.kernel_check.proofs.fault_reports.packets_tell.Given as goal

abbrev pub invariant-loop-p : goal.invariant-loop-p
invariant-loop-p l = IsGoing (PacketTells l.store) (λ p. Unit {0}) l.p-iterator (queue_at l.store l.head)
