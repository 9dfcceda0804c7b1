use Rattle.std.proofs.lemmas.Result.{err_from_is_err_and}
use Rattle.byte_streams.proofs.GatheredTexts.{Gathers-then, IsCut-more}
use Rattle.saved_text.proofs.saved_lines.print.print_bytes.Goals as goal

pub returns-in_err-gather-clause-text : goal.returns-in_err-gather-clause-text
returns-in_err-gather-clause-text g c =
    let p = err_from_is_err_and c.from_residual.result c.from_residual.ensures.1 in
    rw p.1 (IsCut-more _ c.in_err-gather.ensures.text)

pub returns-clause-text : goal.returns-clause-text
returns-clause-text g c = Gathers-then c.in_ok-gather.ensures.text _ _ _ c.gather_hex_line.result c.gather_hex_line.ensures.text
