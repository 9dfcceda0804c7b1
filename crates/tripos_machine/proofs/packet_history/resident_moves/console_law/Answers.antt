use Rattle.tripos_machine.proofs.PacketHistory.ConsoleMoves.{console-moves}
use Rattle.tripos_machine.proofs.packet_history.resident_moves.console_law.Goals as goal

pub returns-clause-moves : goal.returns-clause-moves
returns-clause-moves c = λ due id console k s l h r is. (console-moves due id console k s l h r is).moves

pub returns-clause-senders : goal.returns-clause-senders
returns-clause-senders c = λ id console k s l h r is. (console-moves (λ e. 0) id console k s l h r is).turn
