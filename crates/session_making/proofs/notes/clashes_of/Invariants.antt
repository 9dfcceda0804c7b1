use Rattle.std.proofs.Common.{◌≡◌, drop}
use Rattle.session_making.specs.Notes.{clashes_after, no_clashes}
use Rattle.session_making.proofs.notes.clashes_of.Given as goal

abbrev pub invariant-loop-file : goal.invariant-loop-file
invariant-loop-file l = clashes_after l.sources l.clashes (drop l.file-index l.files) ≡ clashes_after l.sources no_clashes l.files
