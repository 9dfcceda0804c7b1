use Rattle.std.proofs.Common.{◌≡◌, ◌<◌, ◌-◌, ◌≤◌, []}
use Rattle.tripos_machine.specs.Step.{run}
use Rattle.machine_ring.proofs.left.take_quiet_steps.Given as goal

abbrev pub invariant-loop-taken : goal.invariant-loop-taken
invariant-loop-taken l = record {
  few : l.taken ≤ l.n;
  state : l.machine.state ≡ (run l.taken l.fn.machine.state).state;
  output : 0 < l.taken → l.machine.output ≡ [];
}

abbrev pub decreases-loop-taken : goal.decreases-loop-taken
decreases-loop-taken l = l.n - l.taken
