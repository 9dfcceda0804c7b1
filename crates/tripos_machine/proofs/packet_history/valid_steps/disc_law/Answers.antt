use Rattle.tripos_machine.proofs.PacketHistory.DiscTurns.{turn-disc}
use Rattle.tripos_machine.proofs.packet_history.valid_steps.disc_law.Goals as goal

pub returns : goal.returns
returns c = λ k disc. turn-disc k disc
