use Rattle.std.proofs.Common.{◌≤◌, take}
use Rattle.std.specs.Io.KnownBytes.{Appends}
use Rattle.module_text.specs.TextReader.Lines.{text_of_lines}
use Rattle.session_text.specs.Canonical.{lines_text}
use Rattle.session_text.proofs.print.print_lines.Given as goal

abbrev pub invariant-loop-line : goal.invariant-loop-line
invariant-loop-line g l = record {
  text : Appends (g.K.Sink.holds l.fn.out) (g.K.Sink.holds l.out) (text_of_lines (lines_text (take l.line-index l.lines)));
  later : g.K.Sink.faults l.fn.out ≤ g.K.Sink.faults l.out;
}
