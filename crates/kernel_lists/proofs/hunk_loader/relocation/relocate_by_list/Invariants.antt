use Rattle.std.proofs.Common.{◌≡◌, ◌-◌, ◌<◌, ℕ, List, length}
use Rattle.kernel_lists.specs.HunkLoader.Private.Follow.{OffsetsFollow, places}
use Rattle.kernel_lists.specs.HunkLoader.RelocatedWords.{relocated}
use Rattle.kernel_lists.proofs.HunkLoader.RelocationLists.{OffsetsInside, OffsetsLeft}
use Rattle.kernel_lists.proofs.hunk_loader.relocation.relocate_by_list.Given as goal

abbrev pub invariant-loop : goal.invariant-loop
invariant-loop g l =
    let text = g.X.TextBytes.text l.text in
    let left = l.end - l.counter in
    record {
      all : (offsets others : List ℕ) → OffsetsFollow text l.fn.from offsets others → OffsetsLeft text l.store l.place l.base left others (relocated l.base l.fn.store (places l.base offsets));
      inside : OffsetsInside text l.store l.place l.base left;
      size : length l.store ≡ length l.fn.store;
      further : l.fn.from < l.place;
    }
