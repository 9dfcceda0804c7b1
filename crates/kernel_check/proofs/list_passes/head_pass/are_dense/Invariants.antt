use Rattle.std.proofs.Common.{◌≡◌, ◌+◌, ◌<◌, ℕ, get_or}
use Rattle.kernel_check.proofs.list_passes.head_pass.are_dense.Given as goal

abbrev pub invariant-loop-i : goal.invariant-loop-i
invariant-loop-i l = (k : ℕ) → k + 1 < l.i → get_or l.words k 0 ≡ 0 → get_or l.words (k + 1) 0 ≡ 0
