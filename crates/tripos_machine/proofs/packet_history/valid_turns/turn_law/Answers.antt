use Rattle.tripos_machine.proofs.PacketHistory.ResidentTurns.{step-turn-valid}
use Rattle.tripos_machine.proofs.packet_history.valid_turns.turn_law.Goals as goal

pub returns : goal.returns
returns c = λ k v goes. step-turn-valid k v goes
