use Rattle.kernel_model.proofs.KernelRecord.ResidentPackets.{fault_queued-valid, fault_unqueued-valid}
use Rattle.kernel_model.proofs.kernel_record.change_laws.fault_packet_law.Goals as goal

pub returns-clause-queued : goal.returns-clause-queued
returns-clause-queued c = fault_queued-valid

pub returns-clause-unqueued : goal.returns-clause-unqueued
returns-clause-unqueued c = fault_unqueued-valid
