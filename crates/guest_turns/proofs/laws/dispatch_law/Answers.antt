use Rattle.guest_turns.proofs.TurnFields.{turn-dispatches, turn-numbers}
use Rattle.guest_turns.proofs.laws.dispatch_law.Goals as goal

pub returns-clause-dispatch : goal.returns-clause-dispatch
returns-clause-dispatch c = λ s l r calls alone byte. turn-dispatches s l r alone calls byte

pub returns-clause-numbers : goal.returns-clause-numbers
returns-clause-numbers c = λ s l r alone. turn-numbers s l r alone
