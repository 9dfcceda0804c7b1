use Rattle.std.proofs.Common.{◌≡◌, ℕ, ◌+◌, ◌<◌, get_or, vec_len}
use Rattle.ram_disc.proofs.sectors.links_to_next.Given as goal

abbrev pub invariant-loop-sector : goal.invariant-loop-sector
invariant-loop-sector l = (vec_len l.links ≡ l.sector) × ((k : ℕ) → k < l.sector → get_or l.links.items k 0 ≡ k + 1)
