use Rattle.tripos_machine.proofs.PacketHistory.ResidentTurns.{resident-valid}
use Rattle.tripos_machine.proofs.packet_history.valid_turns.resident_law.Goals as goal

pub returns : goal.returns
returns c = λ k h r. resident-valid k h r
