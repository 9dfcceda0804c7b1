use Rattle.kernel_model.proofs.KernelRecord.ChainMoves.{gone_task-unowned, gone_task-valid}
use Rattle.kernel_model.proofs.kernel_record.change_laws.gone_task_law.Goals as goal

pub returns-clause-valid : goal.returns-clause-valid
returns-clause-valid c = gone_task-valid

pub returns-clause-unowned : goal.returns-clause-unowned
returns-clause-unowned c = gone_task-unowned
