use Rattle.kernel_model.proofs.KernelRecord.OneTask.{same_task-valid}
use Rattle.kernel_model.proofs.kernel_record.change_laws.same_task_law.Goals as goal

pub returns : goal.returns
returns c = same_task-valid
