use Rattle.std.proofs.lemmas.Result.{err_from_is_err_and}
use Rattle.byte_streams.proofs.FailedPrint.{Prints-cut}
use Rattle.session_text.proofs.PrintedTexts.{lines_at}
use Rattle.session_text.proofs.print.print_lines.Goals as goal

pub returns-in_err-print_form-clause-text : goal.returns-in_err-print_form-clause-text
returns-in_err-print_form-clause-text g c =
    let p = err_from_is_err_and c.from_residual.result c.from_residual.ensures.1 in
    rw (lines_at c.args.lines.now c.loop-line.line-index c.line-item.result c.loop-line-test.true c.line-item.is) (Prints-cut _ _ _ _ _ _ _ p.0 p.1 c.loop-line.invariant.text c.in_err-print_form.ensures.text)
