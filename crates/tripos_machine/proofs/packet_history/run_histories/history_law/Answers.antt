use Rattle.tripos_machine.proofs.PacketHistory.Histories.{whole-law}
use Rattle.tripos_machine.proofs.packet_history.run_histories.history_law.Goals as goal

pub returns : goal.returns
returns c = λ n k valid few. whole-law n k valid few
