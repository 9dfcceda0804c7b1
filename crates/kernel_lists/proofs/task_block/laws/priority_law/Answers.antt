use Rattle.kernel_lists.proofs.TaskBlock.NewTask.{new-priority}
use Rattle.kernel_lists.proofs.task_block.laws.priority_law.Goals as goal

pub returns : goal.returns
returns c = new-priority
