use Rattle.std.proofs.Common.{◌≡◌}
use Rattle.kernel_lists.specs.LinkedList.Chain.{last_cell}
use Rattle.kernel_lists.specs.PacketQueue.Queue as queue
use Rattle.kernel_lists.proofs.packet_queue.places.last_link.Given as goal

abbrev pub invariant-loop-p : goal.invariant-loop-p
invariant-loop-p l = queue.last_link l.store l.head ≡ last_cell queue.link_of l.cell l.p-iterator
