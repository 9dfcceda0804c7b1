use Rattle.std.proofs.Common.{[], ◌∷◌, ◌++◌}
use Rattle.std.specs.Prelude.{codes}
use Rattle.std.proofs.lemmas.Result.{err_from_is_err_and}
use Rattle.byte_streams.proofs.FailedPrint.{Prints-cut}
use Rattle.byte_streams.proofs.AppendedTexts.{Appends-nothing, Prints-then}
use Rattle.session_text.proofs.PrintedTexts.{colon_text}
use Rattle.session_text.proofs.print.print_file.Goals as goal

pub returns-in_err-write_pieces-clause-text : goal.returns-in_err-write_pieces-clause-text
returns-in_err-write_pieces-clause-text g c =
    let p = err_from_is_err_and c.from_residual.result c.from_residual.ensures.1 in
    rw (← c.bytes.ensures.value) (Prints-cut _ _ _ [] (codes "FILE " ++ (c.bytes.result.now ++ 10 ∷ [])) (colon_text c.args.bytes.now) _ p.0 p.1 (Appends-nothing _) c.in_err-write_pieces.ensures.text)

pub returns-clause-text : goal.returns-clause-text
returns-clause-text g c =
    rw (← c.bytes.ensures.value) (Prints-then _ _ _ (codes "FILE " ++ (c.bytes.result.now ++ 10 ∷ [])) _ _ c.in_ok-write_pieces.ensures.text c.print_text.ensures.text)
