use Rattle.kernel_lists.proofs.TaskBlock.ChainExchanges.{blocks-held}
use Rattle.kernel_lists.proofs.task_block.laws.held_tasks_law.Goals as goal

pub returns : goal.returns
returns c = blocks-held
