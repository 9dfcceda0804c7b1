use Rattle.std.proofs.Common.{[], ◌≡◌, ◌<◌, get_or, length, take}
use Rattle.arrayvec.specs.ArrayVec.{array_vec_len}
use Rattle.ram_disc.proofs.sectors.Sectors.list.Given as goal

abbrev pub invariant-loop-i : goal.invariant-loop-i
invariant-loop-i l = record {
  sofar : l.sectors.items ≡ take l.i (get_or l.self.chains l.slot []);
  len : array_vec_len l.sectors ≡ l.i;
  next : l.i < length (get_or l.self.chains l.slot []) → get_or (get_or l.self.chains l.slot []) l.i 0 ≡ l.sector;
}
