use Rattle.std.proofs.Common.{◌≡◌, ◌≤◌, ◌-◌, length}
use Rattle.debugger.specs.MachineHistory.FilesBefore.{gone_back}
use Rattle.debugger.proofs.machine_history.files.go_back.Given as goal

abbrev pub invariant-loop-i : goal.invariant-loop-i
invariant-loop-i l = record {
  back : gone_back (17 - l._i) l.n l.ring.items ≡ gone_back 17 l.n l.fn.ring.items;
  room : l.ring.capacity ≡ l.fn.ring.capacity;
  fits : length l.ring.items ≤ l.ring.capacity;
}
