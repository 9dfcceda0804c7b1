use Rattle.std.proofs.Common.{◌≤◌, ◌-◌, map, drop}
use Rattle.saved_text.specs.ImageForm.{stream_statement}
use Rattle.saved_machine.specs.ImagePrint.SavedImage.{with_places, numbered_streams, saved_stream}
use Rattle.saved_machine.specs.ImagePrint.Private.Texts.{statements_text}
use Rattle.saved_machine.proofs.ImagePrint.PrintedParts.{HasPrinted}
use Rattle.saved_machine.proofs.image_print.streams.print_streams.Given as goal

abbrev pub invariant-loop-k : goal.invariant-loop-k
invariant-loop-k g l = record {
  printed :
      HasPrinted (g.K.Sink.holds l.fn.out) (g.K.Sink.holds l.out) l.fn.pending l.pending
      (statements_text (map stream_statement (numbered_streams l.disc.streams)))
      (statements_text (map stream_statement (with_places saved_stream l.k (drop (l.k - 1) l.disc.streams))));
  later : g.K.Sink.faults l.fn.out ≤ g.K.Sink.faults l.out;
}
