use Rattle.tripos_machine.proofs.PacketHistory.ReporterMoves.{reporter-moves}
use Rattle.tripos_machine.proofs.packet_history.resident_moves.reporter_law.Goals as goal

pub returns-clause-moves : goal.returns-clause-moves
returns-clause-moves c = λ due s l h r is. (reporter-moves due s l h r is).moves

pub returns-clause-senders : goal.returns-clause-senders
returns-clause-senders c = λ s l h r is. (reporter-moves (λ e. 0) s l h r is).turn
