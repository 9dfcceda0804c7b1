use Rattle.std.proofs.Common.{◌≡◌, ◌-◌, ◌≤◌, false}
use Rattle.byte_streams.specs.Pending.{IsGathered}
use Rattle.tripos_machine.specs.Runs.{HasRun, LeavesOutput}
use Rattle.tripos_machine.specs.Step.{run}
use Rattle.tripos_machine.proofs.machine.Machine.run.Given as goal

abbrev pub invariant-loop-taken : goal.invariant-loop-taken
invariant-loop-taken g l = record {
  few : l.taken ≤ l.n;
  ran : HasRun l.taken l.fn.self.state l.self.state (g.L.EventLog.noted l.fn.log) (g.L.EventLog.noted l.log) (g.L.EventLog.has_failed l.fn.log) (g.L.EventLog.has_failed l.log);
  works : g.L.EventLog.has_failed l.log ≡ false;
  gathered : IsGathered (g.K.Sink.holds l.fn.out) (g.K.Sink.holds l.out) l.fn.pending l.pending (run l.taken l.fn.self.state).bytes;
  later : g.K.Sink.faults l.fn.out ≤ g.K.Sink.faults l.out;
  output : LeavesOutput l.taken l.fn.self.state l.self.state l.fn.self.output l.self.output;
  keys : l.self.keys ≡ l.fn.self.keys;
}

abbrev pub decreases-loop-taken : goal.decreases-loop-taken
decreases-loop-taken g l = l.n - l.taken
