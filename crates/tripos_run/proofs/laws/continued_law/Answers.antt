use Rattle.tripos_run.proofs.ContinuedRuns.{continued, saved-goes-on}
use Rattle.tripos_run.proofs.laws.continued_law.Goals as goal

pub returns-clause-answers : goal.returns-clause-answers
returns-clause-answers c = continued

pub returns-clause-machines : goal.returns-clause-machines
returns-clause-machines c = saved-goes-on
