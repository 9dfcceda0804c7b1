use Rattle.shell.proofs.ShellListings.LargestRun.{largest-most, largest-none, largest-reached}
use Rattle.shell.proofs.shell_listings.laws.largest_run_law.Goals as goal

pub returns-clause-most : goal.returns-clause-most
returns-clause-most c = largest-most

pub returns-clause-reached : goal.returns-clause-reached
returns-clause-reached c = largest-reached

pub returns-clause-none : goal.returns-clause-none
returns-clause-none c = largest-none
