use Rattle.tripos_machine.proofs.PacketHistory.CallMoves.{dqpkt-moves, qpkt-moves, taskwait-moves}
use Rattle.tripos_machine.proofs.packet_history.queue_moves.call_law.Goals as goal

pub returns-clause-qpkt : goal.returns-clause-qpkt
returns-clause-qpkt c = λ due s l p v is. qpkt-moves due s l p v is

pub returns-clause-taskwait : goal.returns-clause-taskwait
returns-clause-taskwait c = λ due l v there. taskwait-moves due l v there

pub returns-clause-dqpkt : goal.returns-clause-dqpkt
returns-clause-dqpkt c = λ due l id p v there. dqpkt-moves due l id p v there
