use Rattle.std.proofs.lemmas.Result.{err_from_is_err_and}
use Rattle.byte_streams.proofs.GatheredTexts.{Prints-gathered}
use Rattle.assembly.proofs.module_listing.lines.line_at.Goals as goal

pub returns-in_err-pass_on-clause-text : goal.returns-in_err-pass_on-clause-text
returns-in_err-pass_on-clause-text g c =
    let r = c.from_residual-in_err-pass_on in
    let p = err_from_is_err_and r.result r.ensures.1 in
    let cut = Prints-gathered _ c.pass_on.result c.new-pending.ensures c.in_ok-length.ensures.text c.pass_on.ensures.text in
    rw p.1 (rw c.in_err-pass_on.was at cut)
