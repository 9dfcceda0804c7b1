use Rattle.std.proofs.Common.{◌≡◌, ◌≤◌, length}
use Rattle.run_pictures.specs.Letters.{letters, without_last_blanks}
use Rattle.run_pictures.proofs.texts.without_last_blanks.Given as goal

abbrev pub invariant-loop-last : goal.invariant-loop-last
invariant-loop-last l = record {
  value : without_last_blanks l.line ≡ without_last_blanks l.text;
  letters : letters l.line ≡ letters l.text;
  length : length l.line ≤ length l.text;
}

abbrev pub decreases-loop-last : goal.decreases-loop-last
decreases-loop-last l = length l.line
