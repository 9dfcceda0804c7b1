use Rattle.shell.proofs.ShellListings.BlockSums.{block_line-short}
use Rattle.shell.proofs.ShellListings.LineLengths.{file_lines-short, number_line-short, task_lines-short}
use Rattle.shell.proofs.shell_listings.laws.lengths_law.Goals as goal

pub returns-clause-files : goal.returns-clause-files
returns-clause-files c = file_lines-short

pub returns-clause-tasks : goal.returns-clause-tasks
returns-clause-tasks c = task_lines-short

pub returns-clause-blocks : goal.returns-clause-blocks
returns-clause-blocks c = block_line-short

pub returns-clause-number : goal.returns-clause-number
returns-clause-number c = number_line-short
