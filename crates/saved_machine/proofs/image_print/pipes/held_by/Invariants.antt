use Rattle.std.proofs.Common.{◌≡◌, take}
use Rattle.arrayvec.specs.ArrayVec.{array_vec_len}
use Rattle.resident_tasks.specs.PipeHandler.PipeCalls.{held_by, pipe_numbered}
use Rattle.saved_machine.proofs.image_print.pipes.held_by.Given as goal

abbrev pub invariant-loop-i : goal.invariant-loop-i
invariant-loop-i l = record {
  so_far : l.held.items ≡ take l.i (held_by (pipe_numbered l.pipes l.k));
  len : array_vec_len l.held ≡ l.i;
}
