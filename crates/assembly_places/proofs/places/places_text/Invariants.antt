use Rattle.std.proofs.Common.{◌≡◌, ◌≤◌, ◌+◌, ◌++◌, length}
use Rattle.module_text.specs.TextReader.Lines.{lines_of}
use Rattle.assembly_places.specs.Places.{no_walk, places_from, walked_of}
use Rattle.assembly_places.proofs.places.places_text.Given as goal

abbrev pub invariant-loop-line : goal.invariant-loop-line
invariant-loop-line l = record {
  places : l.places.items ++ places_from (l.n + 1) (walked_of l.walk) (lines_of l.rest) ≡ places_from 1 no_walk (lines_of l.text);
  low : l.walk.known.offset ≤ 262144;
  few : l.walk.known.pairs ≤ 65536;
  number : l.n + length l.rest ≤ length l.text;
}

abbrev pub decreases-loop-line : goal.decreases-loop-line
decreases-loop-line l = length l.rest
