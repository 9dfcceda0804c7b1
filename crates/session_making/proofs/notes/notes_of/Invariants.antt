use Rattle.std.proofs.Common.{◌≡◌, [], drop}
use Rattle.session_making.specs.Notes.{notes_after}
use Rattle.session_making.proofs.notes.notes_of.Given as goal

abbrev pub invariant-loop-clash : goal.invariant-loop-clash
invariant-loop-clash l = notes_after l.clashes l.told l.text.items (drop l.clash-index l.clashes) ≡ notes_after l.clashes l.fn.told [] l.clashes
