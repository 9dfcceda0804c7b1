use Rattle.tripos_machine.proofs.PacketHistory.TurnMoves.{turn-moves}
use Rattle.tripos_machine.proofs.packet_history.run_histories.turn_law.Goals as goal

pub returns : goal.returns
returns c = λ k valid goes. (turn-moves k valid goes).moves
