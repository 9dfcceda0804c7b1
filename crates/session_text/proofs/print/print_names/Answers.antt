use Rattle.std.proofs.lemmas.Result.{err_from_is_err_and}
use Rattle.byte_streams.proofs.FailedPrint.{Prints-cut}
use Rattle.session_text.proofs.PrintedTexts.{names_at}
use Rattle.session_text.proofs.print.print_names.Goals as goal

pub returns-in_err-write_pieces-clause-text : goal.returns-in_err-write_pieces-clause-text
returns-in_err-write_pieces-clause-text g c =
    let p = err_from_is_err_and c.from_residual.result c.from_residual.ensures.1 in
    rw (names_at c.args.names.now c.loop-name.name-index c.name-item.result c.loop-name-test.true c.name-item.is, ← c.bytes.ensures.value)
    (Prints-cut _ _ _ _ _ _ _ p.0 p.1 c.loop-name.invariant.text c.in_err-write_pieces.ensures.text)
