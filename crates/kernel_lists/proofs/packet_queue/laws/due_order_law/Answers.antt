use Rattle.kernel_lists.proofs.PacketQueue.DueWords.{ArrivesLast-appended, NeverFalls-appended}
use Rattle.kernel_lists.proofs.packet_queue.laws.due_order_law.Goals as goal

pub returns-clause-never_falls : goal.returns-clause-never_falls
returns-clause-never_falls c = NeverFalls-appended

pub returns-clause-arrival : goal.returns-clause-arrival
returns-clause-arrival c = ArrivesLast-appended
