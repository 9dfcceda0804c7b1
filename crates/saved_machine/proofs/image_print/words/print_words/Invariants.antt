use Rattle.std.proofs.Common.{◌≤◌, drop}
use Rattle.saved_text.specs.ImageForm.{word_statements}
use Rattle.saved_machine.specs.ImagePrint.Private.Texts.{statements_text}
use Rattle.saved_machine.proofs.ImagePrint.PrintedParts.{HasPrinted}
use Rattle.saved_machine.proofs.image_print.words.print_words.Given as goal

abbrev pub invariant-loop-a : goal.invariant-loop-a
invariant-loop-a g l = record {
  printed :
      HasPrinted (g.K.Sink.holds l.fn.out) (g.K.Sink.holds l.out) l.fn.pending l.pending (statements_text (word_statements 0 l.words))
      (statements_text (word_statements l.a (drop l.a l.words)));
  later : g.K.Sink.faults l.fn.out ≤ g.K.Sink.faults l.out;
}
