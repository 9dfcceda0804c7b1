use Rattle.std.proofs.Common.{◌≡◌, drop}
use Rattle.resident_tasks.specs.ResidentRequests.Buffers.{with_bytes}
use Rattle.resident_tasks.proofs.resident_requests.buffers.put_bytes.Given as goal

abbrev pub invariant-loop-i : goal.invariant-loop-i
invariant-loop-i l = with_bytes l.store l.a l.i (drop l.i l.bytes) ≡ with_bytes l.fn.store l.a 0 l.bytes
