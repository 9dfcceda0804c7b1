use Rattle.std.proofs.Common.{◌≡◌, ◌+◌, drop}
use Rattle.session_text.specs.Front.{place_after}
use Rattle.session_text.proofs.fronts.place_after.Given as goal

abbrev pub invariant-loop-i : goal.invariant-loop-i
invariant-loop-i l = l.i + place_after l.left (drop l.i l.text) ≡ place_after l.lines l.text
