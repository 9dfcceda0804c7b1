use Rattle.std.proofs.Common.{◌≡◌, ◌<◌, ◌+◌, ◌^◌, length}
use Rattle.module_text.specs.TextReader.Lines.{lines_of}
use Rattle.debugger.specs.OrderLines.{first_bad}
use Rattle.debugger.proofs.lines.check_lines.Given as goal

abbrev pub invariant-loop-line : goal.invariant-loop-line
invariant-loop-line l = record {
  same : first_bad l.n (lines_of l.rest) ≡ first_bad l.first (lines_of l.lines);
  short : l.n + length l.rest < 2 ^ 32;
}

abbrev pub decreases-loop-line : goal.decreases-loop-line
decreases-loop-line l = length l.rest
