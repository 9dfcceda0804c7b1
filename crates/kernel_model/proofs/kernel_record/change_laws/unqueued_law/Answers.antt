use Rattle.kernel_model.proofs.KernelRecord.PacketMoves.{unqueued-unowned, unqueued-valid}
use Rattle.kernel_model.proofs.kernel_record.change_laws.unqueued_law.Goals as goal

pub returns-clause-valid : goal.returns-clause-valid
returns-clause-valid c = unqueued-valid

pub returns-clause-unowned : goal.returns-clause-unowned
returns-clause-unowned c = unqueued-unowned
