use Rattle.std.proofs.Common.{◌≡◌, replicate}
use Rattle.debugger.proofs.machine_history.files.first_files.Given as goal

abbrev pub invariant-loop-i : goal.invariant-loop-i
invariant-loop-i l = record {
  items : l.ring.items ≡ replicate l._i (record { since = 0; disc = l.parts.disc; pipes = l.parts.pipes });
  room : l.ring.capacity ≡ 17;
}
