use Rattle.std.proofs.lemmas.Result.{err_from_is_err_and}
use Rattle.byte_streams.proofs.GatheredTexts.{IsCut-more}
use Rattle.state_text.specs.TaskTexts.{tasks_text}
use Rattle.state_text.proofs.GatheredLines.{gathers-last}
use Rattle.state_text.proofs.tasks.gather_tasks.Goals as goal

pub returns-in_err-gather-clause-text : goal.returns-in_err-gather-clause-text
unfolding tasks_text
returns-in_err-gather-clause-text g c =
    let p = err_from_is_err_and c.from_residual.result c.from_residual.ensures.1 in
    rw p.1 (IsCut-more _ c.in_err-gather.ensures.text)

pub returns-clause-text : goal.returns-clause-text
unfolding tasks_text
returns-clause-text g c =
    let end = c.gather_chain in
    gathers-last c.in_ok-gather.ensures.text _ _ _ end.result end.ensures.text
