use Rattle.std.proofs.Common.{◌≡◌, ◌≤◌, drop, length}
use Rattle.bare_machine.specs.Boot.{with_lines}
use Rattle.bare_machine.proofs.boot.load_lines.Given as goal

abbrev pub invariant-loop-line : goal.invariant-loop-line
invariant-loop-line l = record {
  lines : with_lines l.store l.at (drop l.line-index l.lines) ≡ with_lines l.fn.store 800 l.lines;
  size : length l.store ≡ length l.fn.store;
  place : l.at ≤ 16777216;
}
