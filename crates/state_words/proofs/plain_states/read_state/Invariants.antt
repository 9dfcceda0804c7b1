use Rattle.std.proofs.Common.{length}
use Rattle.state_words.proofs.plain_states.read_state.Given as goal

abbrev pub decreases-loop-line : goal.decreases-loop-line
decreases-loop-line l = length l.rest
