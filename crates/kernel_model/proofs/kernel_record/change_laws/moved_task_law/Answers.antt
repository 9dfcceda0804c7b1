use Rattle.kernel_model.proofs.KernelRecord.MovedTask.{moved_task-valid}
use Rattle.kernel_model.proofs.kernel_record.change_laws.moved_task_law.Goals as goal

pub returns : goal.returns
returns c = moved_task-valid
