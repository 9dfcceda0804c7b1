use Rattle.std.proofs.Common.{◌≡◌, ◌++◌, drop}
use Rattle.std.specs.List.{flat_map}
use Rattle.program_places.specs.Loaded.{placed_at, placed_hunks}
use Rattle.program_places.proofs.loaded.placed_hunks.Given as goal

abbrev pub invariant-loop-placed : goal.invariant-loop-placed
invariant-loop-placed l = l.loaded.items ++ flat_map (placed_at l.map.hunks) (drop l.placed-index l.map.placed) ≡ placed_hunks l.map
