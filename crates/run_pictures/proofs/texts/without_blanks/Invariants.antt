use Rattle.std.proofs.Common.{◌≡◌, ◌≤◌, length}
use Rattle.run_pictures.specs.Letters.{letters, without_blanks}
use Rattle.run_pictures.proofs.texts.without_blanks.Given as goal

abbrev pub invariant-loop-first : goal.invariant-loop-first
invariant-loop-first l = record {
  value : without_blanks l.rest ≡ without_blanks l.text;
  letters : letters l.rest ≡ letters l.text;
  length : length l.rest ≤ length l.text;
}

abbrev pub decreases-loop-first : goal.decreases-loop-first
decreases-loop-first l = length l.rest
