use Rattle.std.proofs.lemmas.Result.{err_from_is_err_and}
use Rattle.byte_streams.proofs.GatheredTexts.{Gathers-then, IsCut-more, IsCut-then}
use Rattle.state_text.specs.StateText.{kernel_text}
use Rattle.state_text.proofs.GatheredLines.{gathers-last}
use Rattle.state_text.proofs.states.gather_kernel.Goals as goal

pub returns-in_err-gather_tasks-clause-text : goal.returns-in_err-gather_tasks-clause-text
unfolding kernel_text
returns-in_err-gather_tasks-clause-text g c =
    let p = err_from_is_err_and c.from_residual.result c.from_residual.ensures.1 in
    rw p.1 (IsCut-more _ c.in_err-gather_tasks.ensures.text)

pub returns-in_err-gather_queues-clause-text : goal.returns-in_err-gather_queues-clause-text
unfolding kernel_text
returns-in_err-gather_queues-clause-text g c =
    let p = err_from_is_err_and c.from_residual-in_err-gather_queues.result c.from_residual-in_err-gather_queues.ensures.1 in
    rw p.1 (IsCut-then c.in_ok-gather_tasks.ensures.text (IsCut-more _ c.in_err-gather_queues.ensures.text))

pub returns-in_err-gather-clause-text : goal.returns-in_err-gather-clause-text
unfolding kernel_text
returns-in_err-gather-clause-text g c =
    let p = err_from_is_err_and c.from_residual-in_err-gather.result c.from_residual-in_err-gather.ensures.1 in
    rw p.1 (IsCut-then c.in_ok-gather_tasks.ensures.text (IsCut-then c.in_ok-gather_queues.ensures.text (IsCut-more _ c.in_err-gather.ensures.text)))

pub returns-in_err-gather_blocks-clause-text : goal.returns-in_err-gather_blocks-clause-text
unfolding kernel_text
returns-in_err-gather_blocks-clause-text g c =
    let p = err_from_is_err_and c.from_residual-in_err-gather_blocks.result c.from_residual-in_err-gather_blocks.ensures.1 in
    rw p.1 (IsCut-then c.in_ok-gather_tasks.ensures.text (IsCut-then c.in_ok-gather_queues.ensures.text (IsCut-then c.in_ok-gather.ensures.text (IsCut-more _ c.in_err-gather_blocks.ensures.text))))

pub returns-clause-text : goal.returns-clause-text
unfolding kernel_text
returns-clause-text g c =
    let end = c.gather_modules in
    Gathers-then c.in_ok-gather_tasks.ensures.text _ _ _ end.result (Gathers-then c.in_ok-gather_queues.ensures.text _ _ _ end.result (Gathers-then c.in_ok-gather.ensures.text _ _ _ end.result (gathers-last c.in_ok-gather_blocks.ensures.text _ _ _ end.result end.ensures.text)))
