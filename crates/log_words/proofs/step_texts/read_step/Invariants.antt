use Rattle.std.proofs.Common.{length}
use Rattle.log_words.proofs.step_texts.read_step.Given as goal

abbrev pub decreases-loop-line : goal.decreases-loop-line
decreases-loop-line l = length l.rest
