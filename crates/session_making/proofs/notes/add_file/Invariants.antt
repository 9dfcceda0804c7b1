use Rattle.std.proofs.Common.{◌≡◌, drop}
use Rattle.session_making.specs.Notes.{file_clashes}
use Rattle.session_making.proofs.notes.add_file.Given as goal

abbrev pub invariant-loop-number : goal.invariant-loop-number
invariant-loop-number l = file_clashes l.clashes l.path (drop l.number-index l.numbers) ≡ file_clashes l.fn.clashes l.path l.numbers
