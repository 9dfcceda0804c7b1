use Rattle.std.proofs.Common.{◌≤◌, take}
use Rattle.byte_streams.specs.Pending.{IsGathered}
use Rattle.show_run.specs.StepLog.Writes.{written_lines}
use Rattle.show_run.proofs.step_log.writes.gather_each.Given as goal

-- the lines of the writes so far were gathered
abbrev pub invariant-loop-write : goal.invariant-loop-write
invariant-loop-write g l = record {
  text : IsGathered (g.K.Sink.holds l.fn.out) (g.K.Sink.holds l.out) l.fn.pending l.pending (written_lines l.m l.store (take l.write-index l.writes));
  later : g.K.Sink.faults l.fn.out ≤ g.K.Sink.faults l.out;
}
