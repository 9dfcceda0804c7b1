use Rattle.std.proofs.Common.{◌≤◌}
use Rattle.saved_machine.specs.ImagePrint.Private.Texts.{bytes_text}
use Rattle.saved_machine.proofs.ImagePrint.PrintedParts.{HasPrinted}
use Rattle.saved_machine.proofs.ImagePrint.StatementTexts.{lines_from}
use Rattle.saved_machine.proofs.image_print.files.print_byte_lines.Given as goal

abbrev pub invariant-loop-i : goal.invariant-loop-i
invariant-loop-i g l = record {
  printed :
      HasPrinted (g.K.Sink.holds l.fn.out) (g.K.Sink.holds l.out) l.fn.pending l.pending (bytes_text (g.X.TextBytes.text l.bytes))
      (lines_from l.i (g.X.TextBytes.text l.bytes));
  later : g.K.Sink.faults l.fn.out ≤ g.K.Sink.faults l.out;
}
