use Rattle.shell.proofs.KeptRules.{turn-dispatches, turn-faults, turn-rest}
use Rattle.shell.proofs.laws.lists_law.Goals as goal

pub returns-clause-rest : goal.returns-clause-rest
returns-clause-rest c = λ s l sh d. record { rest = turn-rest s l sh d }

pub returns-clause-dispatch : goal.returns-clause-dispatch
returns-clause-dispatch c = λ s l sh d r. turn-dispatches s l sh d r

pub returns-clause-faults : goal.returns-clause-faults
returns-clause-faults c = turn-faults
