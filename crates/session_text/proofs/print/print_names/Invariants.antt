use Rattle.std.proofs.Common.{◌≤◌, take}
use Rattle.std.specs.Io.KnownBytes.{Appends}
use Rattle.session_text.specs.Statements.{names_text}
use Rattle.session_text.proofs.print.print_names.Given as goal

abbrev pub invariant-loop-name : goal.invariant-loop-name
invariant-loop-name g l = record {
  text : Appends (g.K.Sink.holds l.fn.out) (g.K.Sink.holds l.out) (names_text (take l.name-index l.names));
  later : g.K.Sink.faults l.fn.out ≤ g.K.Sink.faults l.out;
}
