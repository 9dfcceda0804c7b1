use Rattle.std.proofs.Common.{◌≡◌, ◌++◌, drop}
use Rattle.std.specs.Str.{bytes_eq}
use Rattle.program_places.specs.Loaded.{hunks_at, placed_at}
use Rattle.program_places.proofs.loaded.push_named.Given as goal

abbrev pub invariant-loop-i : goal.invariant-loop-i
invariant-loop-i l =
    l.loaded.items ++ hunks_at (λ hunk. bytes_eq hunk.name l.placed.name) l.placed.word l.i (drop l.i l.hunks)
    ≡ l.fn.loaded.items ++ placed_at l.hunks l.placed
