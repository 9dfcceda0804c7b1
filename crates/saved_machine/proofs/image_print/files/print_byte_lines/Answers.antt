use Rattle.std.proofs.Common.{arith}
use Rattle.std.proofs.lemmas.Result.{err_from_is_err_and}
use Rattle.saved_machine.proofs.ImagePrint.PrintedParts.{printed-cut, printed-next}
use Rattle.saved_machine.proofs.ImagePrint.StatementTexts.{lines-at}
use Rattle.saved_machine.proofs.image_print.files.print_byte_lines.Goals as goal

pub returns-in_err-print_byte_line-clause-text : goal.returns-in_err-print_byte_line-clause-text
returns-in_err-print_byte_line-clause-text g c =
    let t = g.X.TextBytes.text c.args.bytes.now in
    let lt = rw (c.line_count-i-end.ensures, c.len.ensures) at c.loop-i-test.true in
    let p = err_from_is_err_and c.from_residual.result c.from_residual.ensures.1 in
    rw p.1 (printed-cut c.loop-i.invariant.printed _ _ (lines-at t c.loop-i.i lt) c.in_err-print_byte_line.ensures.text)

pub loop-i-preserved : goal.loop-i-preserved
loop-i-preserved g c =
    let t = g.X.TextBytes.text c.args.bytes.now in
    let lt = rw (c.line_count-i-end.ensures, c.len.ensures) at c.loop-i-test.true in
    record {
      printed = printed-next c.loop-i.invariant.printed _ _ (lines-at t c.loop-i.i lt) c.in_ok-print_byte_line.ensures.text;
      later = omega (arith, c.in_ok-print_byte_line.ensures.cause);
    }
