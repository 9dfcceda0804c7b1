use Rattle.std.proofs.Common.{[], ◌≡◌, ◌<◌, ℕ, get_or, length}
use Rattle.ram_disc.proofs.directory.Directory.copy_from.Given as goal

abbrev pub invariant-loop-i : goal.invariant-loop-i
invariant-loop-i l = record {
  size : length l.self.names.items ≡ length l.other.names.items;
  done : (k : ℕ) → k < l.i → get_or l.self.names.items k [] ≡ get_or l.other.names.items k [];
}
