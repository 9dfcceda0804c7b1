use Rattle.std.proofs.Common.{◌≡◌, take}
use Rattle.arrayvec.specs.ArrayVec.{array_vec_len}
use Rattle.ram_disc.proofs.names.Name.copy.Given as goal

abbrev pub invariant-loop-byte : goal.invariant-loop-byte
invariant-loop-byte l = record {
  sofar : l.bytes.items ≡ take l.byte-index l.byte-items;
  len : array_vec_len l.bytes ≡ l.byte-index;
}
