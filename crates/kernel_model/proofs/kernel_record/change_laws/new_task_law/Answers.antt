use Rattle.kernel_model.proofs.KernelRecord.ChainMoves.{new_task-valid}
use Rattle.kernel_model.proofs.kernel_record.change_laws.new_task_law.Goals as goal

pub returns : goal.returns
returns c = new_task-valid
