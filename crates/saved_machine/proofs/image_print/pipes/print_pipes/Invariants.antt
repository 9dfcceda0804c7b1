use Rattle.std.proofs.Common.{◌≤◌, ◌-◌, map, drop}
use Rattle.saved_text.specs.ImageForm.{pipe_statement}
use Rattle.saved_machine.specs.ImagePrint.SavedImage.{with_places, numbered_pipes, saved_pipe}
use Rattle.saved_machine.specs.ImagePrint.Private.Texts.{statements_text}
use Rattle.saved_machine.proofs.ImagePrint.PrintedParts.{HasPrinted}
use Rattle.saved_machine.proofs.image_print.pipes.print_pipes.Given as goal

abbrev pub invariant-loop-k : goal.invariant-loop-k
invariant-loop-k g l = record {
  printed :
      HasPrinted (g.K.Sink.holds l.fn.out) (g.K.Sink.holds l.out) l.fn.pending l.pending
      (statements_text (map pipe_statement (numbered_pipes l.pipes)))
      (statements_text (map pipe_statement (with_places saved_pipe l.k (drop (l.k - 1) l.pipes))));
  later : g.K.Sink.faults l.fn.out ≤ g.K.Sink.faults l.out;
}
