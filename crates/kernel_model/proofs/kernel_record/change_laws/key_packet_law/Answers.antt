use Rattle.kernel_model.proofs.KernelRecord.ResidentPackets.{key_queued-valid, key_unqueued-valid}
use Rattle.kernel_model.proofs.kernel_record.change_laws.key_packet_law.Goals as goal

pub returns-clause-queued : goal.returns-clause-queued
returns-clause-queued c = key_queued-valid

pub returns-clause-unqueued : goal.returns-clause-unqueued
returns-clause-unqueued c = key_unqueued-valid
