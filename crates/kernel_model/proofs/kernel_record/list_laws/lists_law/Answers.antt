use Rattle.kernel_model.proofs.KernelRecord.RecoveredLists.{lists-back}
use Rattle.kernel_model.proofs.kernel_record.list_laws.lists_law.Goals as goal

pub returns : goal.returns
returns c = lists-back
