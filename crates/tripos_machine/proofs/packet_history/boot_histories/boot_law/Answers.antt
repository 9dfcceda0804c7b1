use Rattle.tripos_machine.proofs.PacketHistory.BootMoves.{boot-moves}
use Rattle.tripos_machine.proofs.packet_history.boot_histories.boot_law.Goals as goal

pub returns : goal.returns
returns c = λ due s x h is. boot-moves due s h x is
