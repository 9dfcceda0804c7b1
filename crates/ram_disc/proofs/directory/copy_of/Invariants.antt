use Rattle.std.proofs.Common.{◌≡◌, take}
use Rattle.arrayvec.specs.ArrayVec.{array_vec_len}
use Rattle.ram_disc.proofs.directory.copy_of.Given as goal

abbrev pub invariant-loop-slot : goal.invariant-loop-slot
invariant-loop-slot l = record {
  sofar : l.copy.items ≡ take l.slot-index l.slot-items;
  len : array_vec_len l.copy ≡ l.slot-index;
}
