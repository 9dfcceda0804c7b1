use Rattle.tripos_machine.proofs.PacketHistory.ResidentMoves.{resident-moves}
use Rattle.tripos_machine.proofs.packet_history.resident_moves.resident_law.Goals as goal

pub returns-clause-moves : goal.returns-clause-moves
returns-clause-moves c = λ due k h r. (resident-moves due k h r).moves

pub returns-clause-senders : goal.returns-clause-senders
returns-clause-senders c = λ k h r. (resident-moves (λ e. 0) k h r).turn
