use Rattle.std.proofs.Common.{◌≡◌, ◌+◌, ◌-◌, length}
use Rattle.module_text.specs.declared.modules.Module.{Module}
use Rattle.kernel_lists.specs.HunkLoader.Private.Follow.{FitsAt}
use Rattle.kernel_lists.proofs.HunkLoader.PlacedHunks.{HunksLeft, row_behind}
use Rattle.kernel_lists.proofs.hunk_loader.placement.place_hunks.Given as goal

abbrev pub invariant-loop-i : goal.invariant-loop-i
invariant-loop-i g l =
    let text = g.X.TextBytes.text l.text in
    record {
      all : (hunks : Module) → FitsAt text l.fn.store l.m l.count hunks → HunksLeft text l.store l.place (l.m + 2 + l.i) l.base (l.count - l.i) (row_behind l.fn.store l.m l.count hunks.hunks);
      size : length l.store ≡ length l.fn.store;
    }
