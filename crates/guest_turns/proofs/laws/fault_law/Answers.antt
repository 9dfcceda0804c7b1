use Rattle.guest_turns.proofs.FaultedTurn.{fault-untouched}
use Rattle.guest_turns.proofs.laws.fault_law.Goals as goal

pub returns : goal.returns
returns c = λ s l r f e. fault-untouched l f s r e
