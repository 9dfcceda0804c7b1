use Rattle.std.proofs.lemmas.Result.{err_from_is_err_and}
use Rattle.byte_streams.proofs.GatheredTexts.{IsCut-first, Prints-gathered}
use Rattle.tripos_run.proofs.saving.write_closing.Goals as goal

pub returns-in_err-gather_closing-clause-text : goal.returns-in_err-gather_closing-clause-text
returns-in_err-gather_closing-clause-text g c =
    let p = err_from_is_err_and c.from_residual.result c.from_residual.ensures.1 in
    rw p.1 (IsCut-first c.new-pending.ensures c.in_err-gather_closing.ensures.text)

pub returns-clause-text : goal.returns-clause-text
returns-clause-text g c = Prints-gathered _ c.pass_on.result c.new-pending.ensures c.in_ok-gather_closing.ensures.text c.pass_on.ensures.text
