use Rattle.std.proofs.lemmas.Result.{err_from_is_err_and}
use Rattle.byte_streams.proofs.GatheredTexts.{IsCut-more, IsCut-then, IsGathered-then, Prints-passed}
use Rattle.tripos_run.proofs.ends.write_end.Goals as goal

pub returns-in_err-gather_closing-clause-text : goal.returns-in_err-gather_closing-clause-text
returns-in_err-gather_closing-clause-text g c =
    let p = err_from_is_err_and c.from_residual.result c.from_residual.ensures.1 in
    rw p.1 (IsCut-more _ c.in_err-gather_closing.ensures.text).prefix

pub returns-in_err-gather_words-clause-text : goal.returns-in_err-gather_words-clause-text
returns-in_err-gather_words-clause-text g c =
    let p = err_from_is_err_and c.from_residual-in_err-gather_words.result c.from_residual-in_err-gather_words.ensures.1 in
    rw p.1 (IsCut-then c.in_ok-gather_closing.ensures.text c.in_err-gather_words.ensures.text).prefix

pub returns-clause-text : goal.returns-clause-text
returns-clause-text g c =
    Prints-passed (IsGathered-then c.in_ok-gather_closing.ensures.text c.in_ok-gather_words.ensures.text) _ c.pass_on.result c.pass_on.ensures.text
