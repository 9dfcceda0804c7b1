use Rattle.std.proofs.Common.{◌≡◌, ◌+◌, drop}
use Rattle.bare_machine.specs.Boot.{with_bytes}
use Rattle.bare_machine.proofs.boot.load_bytes.Given as goal

abbrev pub invariant-loop-i : goal.invariant-loop-i
invariant-loop-i l = with_bytes l.store (l.a + l.i) (drop l.i l.bytes) ≡ with_bytes l.fn.store l.a l.bytes
