use Rattle.std.proofs.lemmas.Result.{err_from_is_err_and}
use Rattle.byte_streams.proofs.GatheredTexts.{Gathers-then, IsCut-more}
use Rattle.saved_text.proofs.saved_lines.print.gather_hex_line.Goals as goal

pub returns-in_err-gather_hex-clause-text : goal.returns-in_err-gather_hex-clause-text
returns-in_err-gather_hex-clause-text g c =
    let p = err_from_is_err_and c.from_residual.result c.from_residual.ensures.1 in
    rw p.1 (IsCut-more _ c.in_err-gather_hex.ensures.text)

pub returns-clause-text : goal.returns-clause-text
returns-clause-text g c = Gathers-then c.in_ok-gather_hex.ensures.text _ _ _ c.gather.result c.gather.ensures.text
