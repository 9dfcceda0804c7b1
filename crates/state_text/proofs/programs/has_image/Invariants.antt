use Rattle.std.proofs.Common.{◌≡◌, ◌+◌, drop, length}
use Rattle.std.specs.Prelude.{nat_eq}
use Rattle.std.specs.List.{starts_with}
use Rattle.kernel_lists.specs.HunkLoader.RelocatedWords.{relocated}
use Rattle.state_text.proofs.programs.has_image.Given as goal

abbrev pub invariant-loop-i : goal.invariant-loop-i
invariant-loop-i l =
    (starts_with nat_eq l.words (relocated l.base l.hunk.words l.hunk.relocations) ≡ starts_with nat_eq l.rest (drop l.i (relocated l.base l.hunk.words l.hunk.relocations)))
    × (l.i + length l.rest ≡ length l.words)
