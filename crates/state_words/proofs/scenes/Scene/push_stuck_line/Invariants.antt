use Rattle.std.proofs.Common.{length}
use Rattle.state_words.proofs.scenes.Scene.push_stuck_line.Given as goal

abbrev pub decreases-loop-words : goal.decreases-loop-words
decreases-loop-words l = length l.rest
