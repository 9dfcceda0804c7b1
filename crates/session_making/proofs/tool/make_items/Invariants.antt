use Rattle.std.proofs.Common.{◌≡◌, ◌≤◌, ◌+◌, drop}
use Rattle.session_making.specs.Tool.{make_items, words_after}
use Rattle.session_making.proofs.tool.make_items.Given as goal

abbrev pub invariant-loop-i : goal.invariant-loop-i
invariant-loop-i l = record {
  all : words_after l.frame l.making l.at (drop l.i l.entries) ≡ make_items l.frame l.entries;
  few : l.at.number ≤ l.i + 1;
}
