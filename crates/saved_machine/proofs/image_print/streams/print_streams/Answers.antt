use Rattle.std.proofs.Common.{arith}
use Rattle.std.proofs.lemmas.Result.{err_from_is_err_and}
use Rattle.saved_machine.proofs.ImagePrint.PrintedParts.{printed-cut, printed-next}
use Rattle.saved_machine.proofs.ImagePrint.StatementTexts.{streams-at}
use Rattle.saved_machine.proofs.image_print.streams.print_streams.Goals as goal

pub returns-in_err-print_stream_at-clause-text : goal.returns-in_err-print_stream_at-clause-text
returns-in_err-print_stream_at-clause-text g c =
    let p = err_from_is_err_and c.from_residual.result c.from_residual.ensures.1 in
    rw p.1 (printed-cut c.loop-k.invariant.printed _ _ (streams-at c.args.disc.now c.loop-k.k (omega arith)) c.in_err-print_stream_at.ensures.text)

pub loop-k-preserved : goal.loop-k-preserved
loop-k-preserved g c = record {
  printed = printed-next c.loop-k.invariant.printed _ _ (streams-at c.args.disc.now c.loop-k.k (omega arith)) c.in_ok-print_stream_at.ensures.text;
  later = omega (arith, c.in_ok-print_stream_at.ensures.cause);
}
