use Rattle.std.proofs.Common.{◌≡◌, ◌+◌, ◌<◌, ◌≤◌, ℕ, get_or}
use Rattle.kernel_check.proofs.list_passes.guests.is_idle.Given as goal

abbrev pub invariant-loop-i : goal.invariant-loop-i
invariant-loop-i l = (k : ℕ) → 11 ≤ k → k < l.i → get_or l.store (l.t + k) 0 ≡ 0
