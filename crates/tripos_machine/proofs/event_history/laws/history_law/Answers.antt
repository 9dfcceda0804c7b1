use Rattle.tripos_machine.proofs.EventHistory.Whole.{whole-history}
use Rattle.tripos_machine.proofs.event_history.laws.history_law.Goals as goal

pub returns : goal.returns
returns c = λ xs b a once falls f. whole-history xs b a once falls f
