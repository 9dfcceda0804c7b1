use Rattle.std.proofs.Common.{length}
use Rattle.show_run.proofs.typed_words.assembly_lines.line_of.Given as goal

abbrev pub decreases-loop-line : goal.decreases-loop-line
decreases-loop-line l = length l.rest
