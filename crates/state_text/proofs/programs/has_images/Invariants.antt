use Rattle.std.proofs.Common.{◌≡◌, ◌+◌, ◌<◌, ◌^◌, drop, length}
use Rattle.std.specs.Prelude.{nat_eq}
use Rattle.std.specs.List.{starts_with}
use Rattle.kernel_lists.specs.HunkLoader.ModuleRow.{hunks_image}
use Rattle.state_text.proofs.programs.has_images.Given as goal

abbrev pub invariant-loop-hunk : goal.invariant-loop-hunk
invariant-loop-hunk l =
    (starts_with nat_eq l.words (hunks_image l.fn.base l.hunks) ≡ starts_with nat_eq l.rest (hunks_image l.base (drop l.hunk-index l.hunks)))
    × (l.base + length l.rest < 2 ^ 32)
