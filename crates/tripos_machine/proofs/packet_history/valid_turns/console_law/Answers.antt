use Rattle.tripos_machine.proofs.PacketHistory.ConsoleTurns.{console-valid}
use Rattle.tripos_machine.proofs.packet_history.valid_turns.console_law.Goals as goal

pub returns : goal.returns
returns c = λ id console k s l h r is. console-valid id console k s l h r is
