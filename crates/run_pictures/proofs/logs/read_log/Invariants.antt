use Rattle.std.proofs.Common.{length}
use Rattle.run_pictures.proofs.logs.read_log.Given as goal

abbrev pub decreases-loop-line : goal.decreases-loop-line
decreases-loop-line l = length l.rest
