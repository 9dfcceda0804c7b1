use Rattle.std.proofs.Common.{◌↔◌, ◌-◌, ◌≤◌}
use Rattle.kernel_lists.specs.GetvecChain.Tiling.{IsTiled, IsTiledFrom}
use Rattle.store_claims.proofs.list_claims.blocks.are_tiled.Given as goal

-- what is left tiles exactly where all does
abbrev pub invariant-loop-at : goal.invariant-loop-at
invariant-loop-at l = record {
  inside : l.at ≤ l.end;
  whole : IsTiledFrom l.store l.at ↔ IsTiled l.store;
}

abbrev pub decreases-loop-at : goal.decreases-loop-at
decreases-loop-at l = l.end - l.at
