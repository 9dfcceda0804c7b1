use Rattle.std.proofs.Common.{arith}
use Rattle.std.proofs.lemmas.Result.{err_from_is_err_and}
use Rattle.saved_machine.proofs.ImagePrint.PrintedParts.{printed-cut, printed-next}
use Rattle.saved_machine.proofs.ImagePrint.StatementTexts.{pipes-at}
use Rattle.saved_machine.proofs.image_print.pipes.print_pipes.Goals as goal

pub returns-in_err-print_pipe_at-clause-text : goal.returns-in_err-print_pipe_at-clause-text
returns-in_err-print_pipe_at-clause-text g c =
    let p = err_from_is_err_and c.from_residual.result c.from_residual.ensures.1 in
    rw p.1 (printed-cut c.loop-k.invariant.printed _ _ (pipes-at c.args.pipes.now c.loop-k.k (omega arith)) c.in_err-print_pipe_at.ensures.text)

pub loop-k-preserved : goal.loop-k-preserved
loop-k-preserved g c = record {
  printed = printed-next c.loop-k.invariant.printed _ _ (pipes-at c.args.pipes.now c.loop-k.k (omega arith)) c.in_ok-print_pipe_at.ensures.text;
  later = omega (arith, c.in_ok-print_pipe_at.ensures.cause);
}
