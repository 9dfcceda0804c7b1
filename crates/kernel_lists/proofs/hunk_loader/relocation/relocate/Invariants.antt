use Rattle.std.proofs.Common.{◌≡◌, ◌-◌, ℕ, List, length}
use Rattle.std.specs.List.{concat}
use Rattle.kernel_lists.specs.HunkLoader.Private.Follow.{ListsFollow, places}
use Rattle.kernel_lists.specs.HunkLoader.RelocatedWords.{relocated}
use Rattle.kernel_lists.proofs.HunkLoader.RelocationLists.{ListsInside, ListsLeft}
use Rattle.kernel_lists.proofs.hunk_loader.relocation.relocate.Given as goal

abbrev pub invariant-loop-next : goal.invariant-loop-next
invariant-loop-next g l =
    let text = g.X.TextBytes.text l.text in
    record {
      all : (lists : List (List ℕ)) (others : List ℕ) → ListsFollow text l.fn.from lists others → ListsLeft text l.store l.place l.base others (relocated l.base l.fn.store (places l.base (concat lists)));
      inside : ListsInside text l.store l.place l.base;
      size : length l.store ≡ length l.fn.store;
    }

abbrev pub decreases-loop-next : goal.decreases-loop-next
decreases-loop-next g l = length (g.X.TextBytes.text l.text) - l.place
