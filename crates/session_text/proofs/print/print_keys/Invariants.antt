use Rattle.std.proofs.Common.{◌≤◌, take}
use Rattle.std.specs.Io.KnownBytes.{Appends}
use Rattle.module_text.specs.TextReader.Lines.{text_of_lines}
use Rattle.session_text.specs.Canonical.{keys_text}
use Rattle.session_text.proofs.print.print_keys.Given as goal

abbrev pub invariant-loop-key : goal.invariant-loop-key
invariant-loop-key g l = record {
  text : Appends (g.K.Sink.holds l.fn.out) (g.K.Sink.holds l.out) (text_of_lines (keys_text (take l.key-index l.keys)));
  later : g.K.Sink.faults l.fn.out ≤ g.K.Sink.faults l.out;
}
