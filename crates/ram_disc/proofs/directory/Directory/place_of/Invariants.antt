use Rattle.std.proofs.Common.{◌≡◌, ◌<◌, ℕ, get_or, true}
use Rattle.ram_disc.specs.Disc.{is_before}
use Rattle.ram_disc.specs.Slots.{name_in}
use Rattle.ram_disc.proofs.directory.Directory.place_of.Given as goal

abbrev pub invariant-loop-i : goal.invariant-loop-i
invariant-loop-i l = (k : ℕ) → k < l.i → is_before (name_in l.self.names.items (get_or l.self.used.items k 0)) l.bytes ≡ true
