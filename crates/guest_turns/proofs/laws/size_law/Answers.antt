use Rattle.guest_turns.proofs.TurnParts.{turn-size}
use Rattle.guest_turns.proofs.laws.size_law.Goals as goal

pub returns : goal.returns
returns c = λ s l r. turn-size l s r
