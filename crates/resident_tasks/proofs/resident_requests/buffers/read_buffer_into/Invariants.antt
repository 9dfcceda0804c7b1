use Rattle.std.proofs.Common.{◌≡◌, ◌*◌}
use Rattle.arrayvec.specs.ArrayVec.{array_vec_len}
use Rattle.resident_tasks.specs.ResidentRequests.Buffers.{bytes_in}
use Rattle.resident_tasks.proofs.resident_requests.buffers.read_buffer_into.Given as goal

abbrev pub invariant-loop-i : goal.invariant-loop-i
invariant-loop-i l = record {
  items : l.bytes.items ≡ bytes_in l.store l.a 0 (4 * l.i);
  count : array_vec_len l.bytes ≡ 4 * l.i;
}
