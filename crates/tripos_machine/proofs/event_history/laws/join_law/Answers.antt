use Rattle.tripos_machine.proofs.EventHistory.Following.{follows-join}
use Rattle.tripos_machine.proofs.event_history.laws.join_law.Goals as goal

pub returns : goal.returns
returns c = λ xs ys b m a. follows-join xs ys b m a
