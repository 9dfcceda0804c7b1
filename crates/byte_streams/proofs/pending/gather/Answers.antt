use Rattle.std.proofs.lemmas.Result.{err_from_is_err_and}
use Rattle.byte_streams.proofs.AppendedTexts.{AppendsPrefix-more}
use Rattle.byte_streams.proofs.GatheredTexts.{Gathers-past}
use Rattle.byte_streams.proofs.pending.gather.Goals as goal

pub returns-in_err-pass_on-clause-text : goal.returns-in_err-pass_on-clause-text
returns-in_err-pass_on-clause-text g c =
    let p = err_from_is_err_and c.from_residual.result c.from_residual.ensures.1 in
    rw p.1 (record { prefix = AppendsPrefix-more _ _ _ _ c.in_err-pass_on.ensures.text })

pub returns-clause-text : goal.returns-clause-text
returns-clause-text g c =
    Gathers-past _ _ _ _ _ _ c.write_text.result c.pass_on.ensures.none c.in_ok-pass_on.ensures.text c.write_text.ensures.text
