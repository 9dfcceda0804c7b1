use Rattle.tripos_machine.proofs.PacketHistory.ReporterMoves.{recorded-moves}
use Rattle.tripos_machine.proofs.packet_history.resident_moves.record_law.Goals as goal

pub returns-clause-moves : goal.returns-clause-moves
returns-clause-moves c = λ due f l v there. (recorded-moves due f l v there).moves

pub returns-clause-senders : goal.returns-clause-senders
returns-clause-senders c = λ f l v there. (recorded-moves (λ e. 0) f l v there).turn
