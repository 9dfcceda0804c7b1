use Rattle.std.proofs.Common.{◌≤◌}
use Rattle.std.specs.Prelude.{slice_range}
use Rattle.hex.specs.Hex.{encode_lower}
use Rattle.byte_streams.specs.Pending.{IsGathered}
use Rattle.saved_text.proofs.saved_lines.print.gather_hex.Given as goal

abbrev pub invariant-loop-i : goal.invariant-loop-i
invariant-loop-i g l = record {
  text : IsGathered (g.K.Sink.holds l.fn.out) (g.K.Sink.holds l.out) l.fn.pending l.pending (encode_lower (slice_range (g.X.TextBytes.text l.bytes) l.from l.i));
  later : g.K.Sink.faults l.fn.out ≤ g.K.Sink.faults l.out;
}
