use Rattle.std.proofs.Common.{◌≤◌, take}
use Rattle.std.specs.Io.KnownBytes.{Appends}
use Rattle.hex.specs.Hex.{encode_lower}
use Rattle.session_text.proofs.print.print_hex.Given as goal

abbrev pub invariant-loop-byte : goal.invariant-loop-byte
invariant-loop-byte g l = record {
  text : Appends (g.K.Sink.holds l.fn.out) (g.K.Sink.holds l.out) (encode_lower (take l.byte-index l.bytes));
  later : g.K.Sink.faults l.fn.out ≤ g.K.Sink.faults l.out;
}
