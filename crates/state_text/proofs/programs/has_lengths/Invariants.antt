use Rattle.std.proofs.Common.{◌≡◌, ◌+◌, drop, length}
use Rattle.std.specs.Prelude.{nat_eq}
use Rattle.std.specs.List.{starts_with}
use Rattle.kernel_lists.specs.HunkLoader.ModuleRow.{lengths_of}
use Rattle.state_text.proofs.programs.has_lengths.Given as goal

abbrev pub invariant-loop-hunk : goal.invariant-loop-hunk
invariant-loop-hunk l =
    (starts_with nat_eq l.words (lengths_of l.hunks) ≡ starts_with nat_eq l.rest (lengths_of (drop l.hunk-index l.hunks)))
    × (l.hunk-index + length l.rest ≡ length l.words)
