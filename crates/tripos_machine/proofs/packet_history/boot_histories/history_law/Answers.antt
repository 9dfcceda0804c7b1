use Rattle.tripos_machine.proofs.PacketHistory.BootHistories.{booted-history}
use Rattle.tripos_machine.proofs.packet_history.boot_histories.history_law.Goals as goal

pub returns : goal.returns
returns c = λ n s x h is few. booted-history n s x h is few
