use Rattle.tripos_machine.proofs.PacketHistory.ShellTurns.{shell-valid}
use Rattle.tripos_machine.proofs.packet_history.valid_turns.shell_law.Goals as goal

pub returns : goal.returns
returns c = λ s l sh d h r is. shell-valid s l sh d h r is
