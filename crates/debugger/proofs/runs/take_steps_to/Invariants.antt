use Rattle.std.proofs.Common.{◌≡◌, ◌+◌, ◌-◌, ◌<◌, ◌≤◌, None}
use Rattle.byte_streams.specs.Pending.{IsGathered}
use Rattle.tripos_machine.specs.State.{stop_of}
use Rattle.tripos_machine.specs.Step.{run}
use Rattle.debugger.specs.Debugged.{steps_to}
use Rattle.debugger.proofs.runs.take_steps_to.Given as goal

abbrev pub invariant-loop-taken : goal.invariant-loop-taken
invariant-loop-taken g l = record {
  few : l.taken ≤ l.most;
  state : l.machine.state ≡ (run l.taken l.fn.machine.state).state;
  told : steps_to l.stops l.most l.fn.machine.state ≡ l.taken + steps_to l.stops (l.most - l.taken) l.machine.state;
  text : IsGathered (g.K.Sink.holds l.fn.out) (g.K.Sink.holds l.out) l.fn.pending l.pending (run l.taken l.fn.machine.state).bytes;
  goes : l.taken < l.most → stop_of l.machine.state ≡ None;
  later : g.K.Sink.faults l.fn.out ≤ g.K.Sink.faults l.out;
}

abbrev pub decreases-loop-taken : goal.decreases-loop-taken
decreases-loop-taken g l = l.most - l.taken
