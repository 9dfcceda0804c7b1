use Rattle.std.proofs.Common.{◌+◌, ◌-◌, ◌≤◌, ◌*◌}
use Rattle.instruction_set.proofs.KeySearch.{IsSearching}
use Rattle.instruction_set.proofs.switches.search.Given as goal

abbrev pub invariant-loop-i : goal.invariant-loop-i
invariant-loop-i l = record {
  searching : IsSearching l.store l.r l.t l.count l.i;
  small : l.i ≤ 2 * l.count + 1;
}

abbrev pub decreases-loop-i : goal.decreases-loop-i
decreases-loop-i l = l.count + 1 - l.i
