use Rattle.std.proofs.Common.{◌≡◌, ◌≤◌, ◌+◌, ◌-◌, ◌++◌, replicate}
use Rattle.arrayvec.specs.ArrayVec.{array_vec_len}
use Rattle.resident_tasks.proofs.file_handler.pieces.put_zeros.Given as goal

abbrev pub invariant-loop-done : goal.invariant-loop-done
invariant-loop-done l = record {
  reach : l.done ≤ l.count;
  sofar : l.bytes.items ≡ l.fn.bytes.items ++ replicate l.done 0;
  len : array_vec_len l.bytes ≡ array_vec_len l.fn.bytes + l.done;
}

abbrev pub decreases-loop-done : goal.decreases-loop-done
decreases-loop-done l = l.count - l.done
