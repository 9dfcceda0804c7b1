use Rattle.std.proofs.Common.{◌≡◌, ◌≤◌, ◌+◌, length}
use Rattle.module_text.specs.TextReader.Lines.{lines_of}
use Rattle.session_text.specs.Front.{front_count}
use Rattle.session_text.proofs.fronts.front_count.Given as goal

abbrev pub invariant-loop-line : goal.invariant-loop-line
invariant-loop-line l = record {
  count : l.count + front_count (lines_of l.rest) ≡ front_count (lines_of l.text);
  few : l.count + length l.rest ≤ length l.text;
}

abbrev pub decreases-loop-line : goal.decreases-loop-line
decreases-loop-line l = length l.rest
