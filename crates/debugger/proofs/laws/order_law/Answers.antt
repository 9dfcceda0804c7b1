use Rattle.debugger.proofs.OrderForms.{asked-again, asked-none}
use Rattle.debugger.proofs.laws.order_law.Goals as goal

pub returns-clause-asks : goal.returns-clause-asks
returns-clause-asks c = asked-again

pub returns-clause-none : goal.returns-clause-none
returns-clause-none c = asked-none
