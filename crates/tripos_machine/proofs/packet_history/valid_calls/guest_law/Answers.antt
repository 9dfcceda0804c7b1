use Rattle.tripos_machine.proofs.PacketHistory.GuestTurns.{guest_step-valid}
use Rattle.tripos_machine.proofs.packet_history.valid_calls.guest_law.Goals as goal

pub returns : goal.returns
returns c = guest_step-valid
