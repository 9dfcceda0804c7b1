use Rattle.std.proofs.Common.{◌≡◌, ◌+◌, drop}
use Rattle.session_making.specs.Items.{own_count}
use Rattle.session_making.proofs.items.own_count.Given as goal

abbrev pub invariant-loop-entry : goal.invariant-loop-entry
invariant-loop-entry l = record {
  all : l.count + own_count (drop l.entry-index l.entries) ≡ own_count l.entries;
  count : l.count ≡ l.entry-index;
}
