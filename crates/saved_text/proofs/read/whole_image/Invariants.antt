use Rattle.std.proofs.Common.{◌≡◌, ◌^◌, ◌<◌, ◌≤◌, ◌+◌, ◌⊎◌, length}
use Rattle.module_text.specs.TextReader.Lines.{lines_of}
use Rattle.saved_text.specs.ImageOfText.{image_of, read_on}
use Rattle.saved_text.specs.declared.drafts.Place.TheVariants.{Version}
use Rattle.saved_text.proofs.read.whole_image.Given as goal

abbrev pub invariant-loop-line : goal.invariant-loop-line
invariant-loop-line l = record {
  image : read_on l.draft l.n (lines_of l.rest) ≡ image_of l.text;
  fits : l.n + length l.rest ≤ 2 ^ 32;
  number : (l.n + length l.rest < 2 ^ 32) ⊎ ((l.draft.place ≡ Version) × (l.n ≡ 1));
  count : l.n + length (lines_of l.rest) ≡ 1 + length (lines_of l.text);
}

abbrev pub decreases-loop-line : goal.decreases-loop-line
decreases-loop-line l = length l.rest
