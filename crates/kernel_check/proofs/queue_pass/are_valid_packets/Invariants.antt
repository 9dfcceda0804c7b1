use Rattle.kernel_lists.specs.PacketQueue.Queue.{queue_at}
use Rattle.kernel_check.proofs.ListPasses.ClaimedWalks.{IsGoing}
use Rattle.kernel_check.specs.Private.Places.{place_of}
use Rattle.kernel_check.proofs.QueueRules.{Lodged, May}
use Rattle.kernel_check.proofs.queue_pass.are_valid_packets.Given as goal

abbrev pub invariant-loop-p : goal.invariant-loop-p
invariant-loop-p l = IsGoing (May l.store (place_of l.at)) (Lodged l.store) l.p-iterator (queue_at l.store l.head)
