use Rattle.std.proofs.Common.{[], ◌≡◌, get_or}
use Rattle.ram_disc.proofs.sectors.Sectors.nth.Given as goal

abbrev pub invariant-loop-i : goal.invariant-loop-i
invariant-loop-i l = get_or (get_or l.self.chains l.slot []) l.i 0 ≡ l.sector
