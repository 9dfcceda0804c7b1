use Rattle.kernel_lists.proofs.PacketQueue.HeldQueues.{append-exchange, due-exchange, remove-exchange}
use Rattle.kernel_lists.proofs.packet_queue.laws.queue_words_law.Goals as goal

pub returns-clause-append : goal.returns-clause-append
returns-clause-append c = append-exchange

pub returns-clause-append_due : goal.returns-clause-append_due
returns-clause-append_due c = due-exchange

pub returns-clause-remove : goal.returns-clause-remove
returns-clause-remove c = remove-exchange
