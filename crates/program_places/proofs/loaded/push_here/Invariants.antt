use Rattle.std.proofs.Common.{◌≡◌, ◌++◌, drop}
use Rattle.program_places.specs.Loaded.{begins_with, hunks_at, hunks_here}
use Rattle.program_places.proofs.loaded.push_here.Given as goal

abbrev pub invariant-loop-i : goal.invariant-loop-i
invariant-loop-i l =
    l.loaded.items ++ hunks_at (λ hunk. begins_with l.words hunk.words) l.at l.i (drop l.i l.hunks)
    ≡ l.fn.loaded.items ++ hunks_here l.hunks l.at l.words
