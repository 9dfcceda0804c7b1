use Rattle.std.proofs.Common.{arith}
use Rattle.std.proofs.lemmas.Result.{err_from_is_err_and}
use Rattle.saved_machine.proofs.ImagePrint.PrintedParts.{printed-cut, printed-next}
use Rattle.saved_machine.proofs.ImagePrint.FileTexts.{files-at}
use Rattle.saved_machine.proofs.image_print.files.print_files.Goals as goal

pub returns-in_err-print_nth_file-clause-text : goal.returns-in_err-print_nth_file-clause-text
returns-in_err-print_nth_file-clause-text g c =
    let p = err_from_is_err_and c.from_residual.result c.from_residual.ensures.1 in
    rw p.1 (printed-cut c.loop-k.invariant.printed _ _ (files-at c.args.disc.now.files c.loop-k.k (omega arith)) c.in_err-print_nth_file.ensures.text)

pub loop-k-preserved : goal.loop-k-preserved
loop-k-preserved g c = record {
  printed = printed-next c.loop-k.invariant.printed _ _ (files-at c.args.disc.now.files c.loop-k.k (omega arith)) c.in_ok-print_nth_file.ensures.text;
  later = omega (arith, c.in_ok-print_nth_file.ensures.cause);
}
