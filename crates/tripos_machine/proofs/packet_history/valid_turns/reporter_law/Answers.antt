use Rattle.tripos_machine.proofs.PacketHistory.ReporterTurns.{reporter-valid}
use Rattle.tripos_machine.proofs.packet_history.valid_turns.reporter_law.Goals as goal

pub returns : goal.returns
returns c = λ s l h r is. reporter-valid s l h r is
