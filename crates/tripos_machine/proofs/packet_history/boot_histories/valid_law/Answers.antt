use Rattle.tripos_machine.proofs.PacketHistory.BootedLists.{booted-is}
use Rattle.tripos_machine.proofs.packet_history.boot_histories.valid_law.Goals as goal

pub returns-clause-valid : goal.returns-clause-valid
returns-clause-valid c = λ s x h is. (booted-is s h x is).valid

pub returns-clause-goes : goal.returns-clause-goes
returns-clause-goes c = λ s x h is. (booted-is s h x is).goes
