use Rattle.tripos_machine.proofs.PacketHistory.ShellMoves.{shell-moves}
use Rattle.tripos_machine.proofs.packet_history.resident_moves.shell_law.Goals as goal

pub returns-clause-moves : goal.returns-clause-moves
returns-clause-moves c = λ due s l sh d h r is. (shell-moves due s l sh d h r is).moves

pub returns-clause-senders : goal.returns-clause-senders
returns-clause-senders c = λ s l sh d h r is. (shell-moves (λ e. 0) s l sh d h r is).turn
