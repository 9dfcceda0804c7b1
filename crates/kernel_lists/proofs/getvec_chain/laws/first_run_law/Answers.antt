use Rattle.kernel_lists.proofs.GetvecChain.MaximalRuns.{first_run-first, first_run-none}
use Rattle.kernel_lists.proofs.getvec_chain.laws.first_run_law.Goals as goal

pub returns-clause-found : goal.returns-clause-found
returns-clause-found c = first_run-first

pub returns-clause-none : goal.returns-clause-none
returns-clause-none c = first_run-none
