use Rattle.tripos_machine.proofs.PacketHistory.RequestMoves.{request-moves}
use Rattle.tripos_machine.proofs.packet_history.resident_moves.request_law.Goals as goal

pub returns-clause-moves : goal.returns-clause-moves
returns-clause-moves c = λ due serve s l h t. (request-moves due serve s l h t).moves

pub returns-clause-senders : goal.returns-clause-senders
returns-clause-senders c = λ serve s l h t. (request-moves (λ e. 0) serve s l h t).turn
