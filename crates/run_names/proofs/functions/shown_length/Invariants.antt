use Rattle.std.proofs.Common.{◌≡◌, ◌≤◌, drop}
use Rattle.run_names.specs.Functions.{shown_length}
use Rattle.run_names.proofs.functions.shown_length.Given as goal

abbrev pub invariant-loop-i : goal.invariant-loop-i
invariant-loop-i l = (shown_length l.i l.end (drop l.i l.letters) ≡ shown_length 0 0 l.letters) × (l.end ≤ l.i)
