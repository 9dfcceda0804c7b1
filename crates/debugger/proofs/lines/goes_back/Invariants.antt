use Rattle.std.proofs.Common.{◌≡◌, length}
use Rattle.module_text.specs.TextReader.Lines.{lines_of}
use Rattle.debugger.specs.OrderLines.{goes_back}
use Rattle.debugger.proofs.lines.goes_back.Given as goal

abbrev pub invariant-loop-line : goal.invariant-loop-line
invariant-loop-line l = record {
  same : goes_back (lines_of l.rest) ≡ goes_back (lines_of l.lines);
}

abbrev pub decreases-loop-line : goal.decreases-loop-line
decreases-loop-line l = length l.rest
