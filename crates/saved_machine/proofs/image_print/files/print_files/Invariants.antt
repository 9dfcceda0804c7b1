use Rattle.std.proofs.Common.{◌≤◌, ◌-◌, drop}
use Rattle.saved_machine.specs.ImagePrint.Private.Texts.{files_text}
use Rattle.saved_machine.proofs.ImagePrint.PrintedParts.{HasPrinted}
use Rattle.saved_machine.proofs.image_print.files.print_files.Given as goal

abbrev pub invariant-loop-k : goal.invariant-loop-k
invariant-loop-k g l = record {
  printed :
      HasPrinted (g.K.Sink.holds l.fn.out) (g.K.Sink.holds l.out) l.fn.pending l.pending (files_text l.disc.files)
      (files_text (drop (l.k - 1) l.disc.files));
  later : g.K.Sink.faults l.fn.out ≤ g.K.Sink.faults l.out;
}
