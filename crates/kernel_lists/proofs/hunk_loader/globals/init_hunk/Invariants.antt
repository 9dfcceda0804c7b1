use Rattle.std.proofs.Common.{◌≡◌, ◌≤◌, ◌<◌, ◌+◌, ℕ, get_or, reverse}
use Rattle.std.specs.Prelude.{slice_range}
use Rattle.kernel_lists.specs.HunkLoader.Globals.{globals_of_hunk, globals_of_pairs, with_globals}
use Rattle.kernel_lists.specs.HunkLoader.ModuleHunks.{placed}
use Rattle.kernel_lists.proofs.hunk_loader.globals.init_hunk.Given as goal

abbrev pub invariant-loop-left : goal.invariant-loop-left
invariant-loop-left l =
    let before = l.fn.store in
    record {
      all : with_globals l.store l.g (globals_of_pairs l.base (reverse (slice_range before l.base (l.base + l.left))))
          ≡ with_globals before l.g (globals_of_hunk (placed l.base (slice_range before l.base (l.base + l.count))));
      same : (a : ℕ) → l.base ≤ a → a < l.base + l.count → get_or l.store a 0 ≡ get_or before a 0;
      few : l.left < l.count;
    }

abbrev pub decreases-loop-left : goal.decreases-loop-left
decreases-loop-left l = l.left
