use Rattle.kernel_lists.proofs.PacketQueue.HeldQueues.{held-queue}
use Rattle.kernel_lists.proofs.packet_queue.laws.held_queue_law.Goals as goal

pub returns-clause-queue : goal.returns-clause-queue
returns-clause-queue c = λ s head ps h. (held-queue s head ps h).valid

pub returns-clause-packets : goal.returns-clause-packets
returns-clause-packets c = λ s head ps h. (held-queue s head ps h).list
