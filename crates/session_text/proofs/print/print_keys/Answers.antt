use Rattle.std.proofs.lemmas.Result.{err_from_is_err_and}
use Rattle.byte_streams.proofs.FailedPrint.{Prints-cut}
use Rattle.session_text.proofs.PrintedTexts.{keys_at}
use Rattle.session_text.proofs.print.print_keys.Goals as goal

pub returns-in_err-print_key-clause-text : goal.returns-in_err-print_key-clause-text
returns-in_err-print_key-clause-text g c =
    let p = err_from_is_err_and c.from_residual.result c.from_residual.ensures.1 in
    rw (keys_at c.args.keys.now c.loop-key.key-index (0, 0) c.loop-key-test.true) (Prints-cut _ _ _ _ _ _ _ p.0 p.1 c.loop-key.invariant.text c.in_err-print_key.ensures.text)
