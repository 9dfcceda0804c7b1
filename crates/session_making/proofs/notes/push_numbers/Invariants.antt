use Rattle.std.proofs.Common.{◌≡◌, ◌++◌, drop}
use Rattle.session_making.specs.Notes.{numbers_text}
use Rattle.session_making.proofs.notes.push_numbers.Given as goal

abbrev pub invariant-loop-other : goal.invariant-loop-other
invariant-loop-other l = l.text.items ++ numbers_text l.clash (drop l.other-index l.clashes) ≡ l.fn.text.items ++ numbers_text l.clash l.clashes
