use Rattle.std.proofs.Common.{◌≤◌, take}
use Rattle.byte_streams.specs.Pending.{IsGathered}
use Rattle.show_run.specs.StepLog.Packets.{told_lines}
use Rattle.show_run.proofs.step_log.packets.gather_told.Given as goal

-- the packets so far are told
abbrev pub invariant-loop-packet : goal.invariant-loop-packet
invariant-loop-packet g l = record {
  text : IsGathered (g.K.Sink.holds l.fn.out) (g.K.Sink.holds l.out) l.fn.pending l.pending (told_lines l.m l.store (take l.packet-index l.told));
  later : g.K.Sink.faults l.fn.out ≤ g.K.Sink.faults l.out;
}
