use Rattle.std.proofs.Common.{◌≡◌, ◌≢◌, ◌<◌, ℕ, true, get_or}
use Rattle.store_claims.specs.WordClaims.Marks.{is_open}
use Rattle.kernel_check.proofs.list_passes.guests.are_named.Given as goal

abbrev pub invariant-loop-w : goal.invariant-loop-w
invariant-loop-w l = (k : ℕ) → k < l.w-index → get_or l.words k 0 ≢ 0 → is_open l.modules (get_or l.words k 0) ≡ true
