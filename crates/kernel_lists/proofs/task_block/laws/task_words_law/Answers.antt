use Rattle.kernel_lists.proofs.TaskBlock.ChainExchanges.{blocks-insert, blocks-unlink}
use Rattle.kernel_lists.proofs.task_block.laws.task_words_law.Goals as goal

pub returns-clause-insert : goal.returns-clause-insert
returns-clause-insert c = blocks-insert

pub returns-clause-unlink : goal.returns-clause-unlink
returns-clause-unlink c = blocks-unlink
