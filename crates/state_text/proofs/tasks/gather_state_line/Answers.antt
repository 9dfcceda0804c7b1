use Rattle.std.proofs.lemmas.Result.{err_from_is_err_and}
use Rattle.byte_streams.proofs.GatheredTexts.{IsCut-more}
use Rattle.state_text.proofs.GatheredLines.{gathers-last}
use Rattle.state_text.proofs.tasks.gather_state_line.Goals as goal

pub returns-in_err-gather_state_words-clause-text : goal.returns-in_err-gather_state_words-clause-text
returns-in_err-gather_state_words-clause-text g c =
    let p = err_from_is_err_and c.from_residual.result c.from_residual.ensures.1 in
    rw p.1 (IsCut-more _ c.in_err-gather_state_words.ensures.text)

pub returns-clause-text : goal.returns-clause-text
returns-clause-text g c =
    let end = c.gather_line_end in
    gathers-last c.in_ok-gather_state_words.ensures.text _ _ _ end.result (rw c.name_of_task.ensures at end.ensures.text)
