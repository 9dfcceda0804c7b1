use Rattle.std.proofs.Common.{◌≡◌, ◌-◌, length}
use Rattle.lab_marks.specs.Expressions.{reading_kept, value_after, value_of}
use Rattle.lab_marks.specs.Known.{kept}
use Rattle.lab_marks.specs.Tokens.{tokens_within}
use Rattle.lab_marks.proofs.expressions.value_of.Given as goal

abbrev pub invariant-loop-done : goal.invariant-loop-done
invariant-loop-done l =
    value_after (kept l.known) l.text (reading_kept l.reading) (tokens_within (length l.text - l.done) l.rest) ≡ value_of (kept l.known) l.text
