use Rattle.std.proofs.Common.{◌≡◌}
use Rattle.std.specs.List.{range_with_len}
use Rattle.arrayvec.specs.ArrayVec.{array_vec_len}
use Rattle.ram_disc.proofs.directory.all_slots.Given as goal

abbrev pub invariant-loop-slot : goal.invariant-loop-slot
invariant-loop-slot l = record {
  sofar : l.slots.items ≡ range_with_len 0 l.slot;
  len : array_vec_len l.slots ≡ l.slot;
}
