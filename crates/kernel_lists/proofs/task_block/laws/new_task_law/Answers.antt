use Rattle.kernel_lists.proofs.TaskBlock.NewTask.{word-stays_new}
use Rattle.kernel_lists.proofs.task_block.laws.new_task_law.Goals as goal

pub returns : goal.returns
returns c = word-stays_new
