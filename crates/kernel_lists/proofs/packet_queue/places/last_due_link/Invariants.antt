use Rattle.std.proofs.Common.{◌≡◌}
use Rattle.std.specs.List.{AllByRecursion}
use Rattle.kernel_lists.specs.LinkedList.Linked.{IsNode}
use Rattle.kernel_lists.specs.LinkedList.Places.{cell_after}
use Rattle.kernel_lists.specs.PacketQueue.Queue.{link_of, packet_size}
use Rattle.kernel_lists.specs.PacketQueue.Due as due
use Rattle.kernel_lists.proofs.packet_queue.places.last_due_link.Given as goal

abbrev pub invariant-loop-p : goal.invariant-loop-p
invariant-loop-p l = record {
  last : due.last_due_link l.store l.head l.tick ≡ cell_after (due.is_due l.store l.tick) link_of l.cell l.p-iterator;
  nodes : AllByRecursion (IsNode l.store link_of packet_size) l.p-iterator;
}
