use Rattle.std.proofs.lemmas.Result.{err_from_is_err_and}
use Rattle.byte_streams.proofs.GatheredTexts.{Gathers-then, IsCut-more}
use Rattle.module_text.specs.Canonical.{end_text, printed}
use Rattle.module_text.proofs.print.gather_module.Goals as goal

pub returns-in_err-gather_hunks-clause-text : goal.returns-in_err-gather_hunks-clause-text
unfolding printed
returns-in_err-gather_hunks-clause-text g c =
    let p = err_from_is_err_and c.from_residual.result c.from_residual.ensures.1 in
    let hunks = rw c.as_slice.ensures at c.in_err-gather_hunks.ensures.text in
    rw p.1 (IsCut-more end_text hunks)

pub returns-clause-text : goal.returns-clause-text
unfolding printed
returns-clause-text g c =
    let hunks = rw c.as_slice.ensures at c.in_ok-gather_hunks.ensures.text in
    Gathers-then hunks _ _ _ c.gather_end.result c.gather_end.ensures.text
