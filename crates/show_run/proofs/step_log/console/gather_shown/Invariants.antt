use Rattle.std.proofs.Common.{◌≤◌, take}
use Rattle.std.specs.List.{flat_map}
use Rattle.byte_streams.specs.Pending.{IsGathered}
use Rattle.show_run.specs.StepLog.Console.{shown}
use Rattle.show_run.proofs.step_log.console.gather_shown.Given as goal

-- the bytes so far are shown
abbrev pub invariant-loop-b : goal.invariant-loop-b
invariant-loop-b g l = record {
  text : IsGathered (g.K.Sink.holds l.fn.out) (g.K.Sink.holds l.out) l.fn.pending l.pending (flat_map shown (take l.b-index l.bytes));
  later : g.K.Sink.faults l.fn.out ≤ g.K.Sink.faults l.out;
}
