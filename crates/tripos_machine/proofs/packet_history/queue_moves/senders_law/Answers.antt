use Rattle.tripos_machine.proofs.PacketHistory.SentEvents.{dqpkt-turn, qpkt-turn, taskwait-turn}
use Rattle.tripos_machine.proofs.packet_history.queue_moves.senders_law.Goals as goal

pub returns-clause-qpkt : goal.returns-clause-qpkt
returns-clause-qpkt c = λ l s p v. qpkt-turn l v s p

pub returns-clause-taskwait : goal.returns-clause-taskwait
returns-clause-taskwait c = λ l v there. taskwait-turn l v there

pub returns-clause-dqpkt : goal.returns-clause-dqpkt
returns-clause-dqpkt c = λ l id p v. dqpkt-turn l v id p
