use Rattle.std.proofs.Common.{length}
use Rattle.show_run.proofs.typed_words.fields.trimmed.Given as goal

abbrev pub decreases-loop-rest : goal.decreases-loop-rest
decreases-loop-rest l = length l.rest
