use Rattle.std.proofs.Common.{◌≡◌, ◌-◌, length}
use Rattle.lab_marks.specs.Fillings.{filled, filled_after}
use Rattle.lab_marks.specs.Known.{kept}
use Rattle.lab_marks.proofs.fillings.filled.Given as goal

abbrev pub invariant-loop-done : goal.invariant-loop-done
invariant-loop-done l =
    filled_after (length l.text - l.done) (kept l.known) l.is_pattern l.filling.made.items l.filling.rest ≡ filled (kept l.known) l.is_pattern l.text
