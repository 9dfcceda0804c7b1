use Rattle.kernel_model.proofs.KernelRecord.PacketMoves.{queued-valid}
use Rattle.kernel_model.proofs.kernel_record.change_laws.queued_law.Goals as goal

pub returns : goal.returns
returns c = queued-valid
