use Rattle.tripos_machine.proofs.PacketHistory.HeldSenders.{valid-senders}
use Rattle.tripos_machine.proofs.packet_history.step_moves.between_law.Goals as goal

pub returns : goal.returns
returns c = λ k valid. valid-senders k valid
