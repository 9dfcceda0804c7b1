use Rattle.state_text.proofs.StillSteps.{run-still}
use Rattle.state_text.proofs.laws.deadlock_law.Goals as goal

pub returns-clause-leaves : goal.returns-clause-leaves
returns-clause-leaves c = λ n k valid is. (run-still n k valid is).0

pub returns-clause-line : goal.returns-clause-line
returns-clause-line c = λ n k valid is. (run-still n k valid is).1
