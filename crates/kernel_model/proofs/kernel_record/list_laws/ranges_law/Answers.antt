use Rattle.kernel_model.proofs.KernelRecord.PacketRanges.{queued-packets}
use Rattle.kernel_model.proofs.KernelRecord.RangesOwned.{ranges-owned}
use Rattle.kernel_model.proofs.KernelRecord.WalkedLists.{can-walk}
use Rattle.kernel_model.proofs.kernel_record.list_laws.ranges_law.Goals as goal

pub returns-clause-walk : goal.returns-clause-walk
returns-clause-walk c = can-walk

pub returns-clause-owned : goal.returns-clause-owned
returns-clause-owned c = λ s l a i. ranges-owned s l i a

pub returns-clause-packets : goal.returns-clause-packets
returns-clause-packets c = queued-packets
