use Rattle.tripos_machine.proofs.PacketHistory.DeviceMoves.{finished-moves, met-moves, ticked-moves}
use Rattle.tripos_machine.proofs.packet_history.step_moves.device_law.Goals as goal

pub returns-clause-keys : goal.returns-clause-keys
returns-clause-keys c = λ due bytes l v. met-moves due l v bytes

pub returns-clause-output : goal.returns-clause-output
returns-clause-output c = λ due l v. finished-moves due l v

pub returns-clause-tick : goal.returns-clause-tick
returns-clause-tick c = λ due l v. ticked-moves due l v
