use Rattle.kernel_lists.proofs.PacketQueue.HeldQueues.{appendable, appended-words, held-queue}
use Rattle.kernel_lists.proofs.packet_queue.laws.append_words_law.Goals as goal

pub returns-clause-queue : goal.returns-clause-queue
returns-clause-queue c = λ s head ps p can. (held-queue s head ps (appendable s head ps p can).queue).valid

pub returns-clause-packet : goal.returns-clause-packet
returns-clause-packet c = λ s head ps p can. (appendable s head ps p can).packet

pub returns-clause-words : goal.returns-clause-words
returns-clause-words c = appended-words
