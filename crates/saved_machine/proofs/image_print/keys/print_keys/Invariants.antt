use Rattle.std.proofs.Common.{◌≤◌, map, drop}
use Rattle.saved_text.specs.ImageForm.{key_statement}
use Rattle.saved_machine.specs.ImagePrint.Private.Texts.{statements_text}
use Rattle.saved_machine.proofs.ImagePrint.PrintedParts.{HasPrinted}
use Rattle.saved_machine.proofs.image_print.keys.print_keys.Given as goal

abbrev pub invariant-loop-key : goal.invariant-loop-key
invariant-loop-key g l = record {
  printed :
      HasPrinted (g.K.Sink.holds l.fn.out) (g.K.Sink.holds l.out) l.fn.pending l.pending (statements_text (map key_statement l.keys))
      (statements_text (map key_statement (drop l.key-index l.keys)));
  later : g.K.Sink.faults l.fn.out ≤ g.K.Sink.faults l.out;
}
