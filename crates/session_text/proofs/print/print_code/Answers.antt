use Rattle.std.proofs.Common.{[], ◌∷◌}
use Rattle.std.proofs.lemmas.Result.{err_from_is_err_and}
use Rattle.byte_streams.proofs.FailedPrint.{Prints-cut}
use Rattle.byte_streams.proofs.AppendedTexts.{Appends-nothing, Prints-then}
use Rattle.session_text.proofs.print.print_code.Goals as goal

pub returns-in_err-write_pieces-clause-text : goal.returns-in_err-write_pieces-clause-text
returns-in_err-write_pieces-clause-text g c =
    let p = err_from_is_err_and c.from_residual.result c.from_residual.ensures.1 in
    Prints-cut _ _ _ [] (58 ∷ []) _ _ p.0 p.1 (Appends-nothing _) c.in_err-write_pieces.ensures.text

pub returns-in_err-print_hex-clause-text : goal.returns-in_err-print_hex-clause-text
returns-in_err-print_hex-clause-text g c =
    let p = err_from_is_err_and c.from_residual-in_err-print_hex.result c.from_residual-in_err-print_hex.ensures.1 in
    Prints-cut _ _ _ (58 ∷ []) _ (10 ∷ []) _ p.0 p.1 c.in_ok-write_pieces.ensures.text c.in_err-print_hex.ensures.text

pub returns-clause-text : goal.returns-clause-text
returns-clause-text g c =
    Prints-then _ _ _ (58 ∷ []) _ _ c.in_ok-write_pieces.ensures.text
    (Prints-then _ _ _ _ (10 ∷ []) _ c.in_ok-print_hex.ensures.text c.write_pieces-2.ensures.text)
