use Rattle.std.proofs.Common.{◌≡◌, drop, None}
use Rattle.session_making.specs.Notes.{setter_in}
use Rattle.session_making.proofs.notes.setter_in.Given as goal

abbrev pub invariant-loop-setter : goal.invariant-loop-setter
invariant-loop-setter l = setter_in l.found l.number (drop l.setter-index l.setters) ≡ setter_in None l.number l.setters
