use Rattle.debugger.proofs.StepsTo.{to-earlier, to-last, to-most, to-some}
use Rattle.debugger.proofs.laws.steps_law.Goals as goal

pub returns-clause-most : goal.returns-clause-most
returns-clause-most c = to-most

pub returns-clause-some : goal.returns-clause-some
returns-clause-some c = to-some

pub returns-clause-earlier : goal.returns-clause-earlier
returns-clause-earlier c = to-earlier

pub returns-clause-last : goal.returns-clause-last
returns-clause-last c = to-last
