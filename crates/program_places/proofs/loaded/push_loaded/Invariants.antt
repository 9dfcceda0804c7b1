use Rattle.std.proofs.Common.{◌≡◌, ◌<◌, ◌+◌, ◌^◌, ◌++◌, length}
use Rattle.program_places.specs.Loaded.{hunks_along}
use Rattle.program_places.proofs.loaded.push_loaded.Given as goal

abbrev pub invariant-loop-others : goal.invariant-loop-others
invariant-loop-others l = record {
  all : l.loaded.items ++ hunks_along l.hunks l.at l.rest ≡ l.fn.loaded.items ++ hunks_along l.hunks l.fn.at l.words;
  small : l.at + length l.rest < 2 ^ 32;
}

abbrev pub decreases-loop-others : goal.decreases-loop-others
decreases-loop-others l = length l.rest
