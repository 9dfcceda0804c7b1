use Rattle.std.proofs.lemmas.Result.{err_from_is_err_and}
use Rattle.byte_streams.proofs.GatheredTexts.{Gathers-then, IsCut-more, IsCut-then}
use Rattle.state_text.specs.TaskTexts.{task_text}
use Rattle.state_text.proofs.GatheredLines.{gathers-last}
use Rattle.state_text.proofs.tasks.gather_task.Goals as goal

pub returns-in_err-gather_state_line-clause-text : goal.returns-in_err-gather_state_line-clause-text
unfolding task_text
returns-in_err-gather_state_line-clause-text g c =
    let p = err_from_is_err_and c.from_residual.result c.from_residual.ensures.1 in
    rw p.1 (IsCut-more _ c.in_err-gather_state_line.ensures.text)

pub returns-in_err-gather_flags-clause-text : goal.returns-in_err-gather_flags-clause-text
unfolding task_text
returns-in_err-gather_flags-clause-text g c =
    let p = err_from_is_err_and c.from_residual-in_err-gather_flags.result c.from_residual-in_err-gather_flags.ensures.1 in
    rw p.1 (IsCut-then c.in_ok-gather_state_line.ensures.text (IsCut-more _ (rw c.field.ensures at c.in_err-gather_flags.ensures.text)))

pub returns-in_err-gather_fault-clause-text : goal.returns-in_err-gather_fault-clause-text
unfolding task_text
returns-in_err-gather_fault-clause-text g c =
    let p = err_from_is_err_and c.from_residual-in_err-gather_fault.result c.from_residual-in_err-gather_fault.ensures.1 in
    rw p.1 (IsCut-then c.in_ok-gather_state_line.ensures.text (IsCut-then (rw c.field.ensures at c.in_ok-gather_flags.ensures.text) (IsCut-more _ c.in_err-gather_fault.ensures.text)))

pub returns-in_err-gather_queue-clause-text : goal.returns-in_err-gather_queue-clause-text
unfolding task_text
returns-in_err-gather_queue-clause-text g c =
    let p = err_from_is_err_and c.from_residual-in_err-gather_queue.result c.from_residual-in_err-gather_queue.ensures.1 in
    rw p.1 (IsCut-then c.in_ok-gather_state_line.ensures.text (IsCut-then (rw c.field.ensures at c.in_ok-gather_flags.ensures.text) (IsCut-then c.in_ok-gather_fault.ensures.text (IsCut-more _ c.in_err-gather_queue.ensures.text))))

pub returns-in_err-gather_awaited_text-clause-text : goal.returns-in_err-gather_awaited_text-clause-text
unfolding task_text
returns-in_err-gather_awaited_text-clause-text g c =
    let p = err_from_is_err_and c.from_residual-in_err-gather_awaited_text.result c.from_residual-in_err-gather_awaited_text.ensures.1 in
    rw p.1 (IsCut-then c.in_ok-gather_state_line.ensures.text (IsCut-then (rw c.field.ensures at c.in_ok-gather_flags.ensures.text) (IsCut-then c.in_ok-gather_fault.ensures.text (IsCut-then c.in_ok-gather_queue.ensures.text (IsCut-more _ c.in_err-gather_awaited_text.ensures.text)))))

pub returns-clause-text : goal.returns-clause-text
unfolding task_text
returns-clause-text g c =
    let end = c.gather_resumption in
    Gathers-then c.in_ok-gather_state_line.ensures.text _ _ _ end.result (Gathers-then (rw c.field.ensures at c.in_ok-gather_flags.ensures.text) _ _ _ end.result (Gathers-then c.in_ok-gather_fault.ensures.text _ _ _ end.result (Gathers-then c.in_ok-gather_queue.ensures.text _ _ _ end.result (gathers-last c.in_ok-gather_awaited_text.ensures.text _ _ _ end.result end.ensures.text))))
