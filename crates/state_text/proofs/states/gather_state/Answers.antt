use Rattle.std.proofs.lemmas.Result.{err_from_is_err_and}
use Rattle.byte_streams.proofs.GatheredTexts.{Gathers-then, IsCut-more, IsCut-then}
use Rattle.state_text.specs.StateText.{state_text}
use Rattle.state_text.proofs.GatheredLines.{gathers-last}
use Rattle.state_text.proofs.states.gather_state.Goals as goal

pub returns-in_err-gather_counts-clause-text : goal.returns-in_err-gather_counts-clause-text
unfolding state_text
returns-in_err-gather_counts-clause-text g c =
    let p = err_from_is_err_and c.from_residual.result c.from_residual.ensures.1 in
    rw p.1 (IsCut-more _ c.in_err-gather_counts.ensures.text)

pub returns-in_err-gather_stop-clause-text : goal.returns-in_err-gather_stop-clause-text
unfolding state_text
returns-in_err-gather_stop-clause-text g c =
    let p = err_from_is_err_and c.from_residual-in_err-gather_stop.result c.from_residual-in_err-gather_stop.ensures.1 in
    rw p.1 (IsCut-then c.in_ok-gather_counts.ensures.text (IsCut-more _ (rw c.stop.ensures at c.in_err-gather_stop.ensures.text)))

pub returns-in_err-gather_runner-clause-text : goal.returns-in_err-gather_runner-clause-text
unfolding state_text
returns-in_err-gather_runner-clause-text g c =
    let p = err_from_is_err_and c.from_residual-in_err-gather_runner.result c.from_residual-in_err-gather_runner.ensures.1 in
    rw p.1 (IsCut-then c.in_ok-gather_counts.ensures.text (IsCut-then (rw c.stop.ensures at c.in_ok-gather_stop.ensures.text) (IsCut-more _ c.in_err-gather_runner.ensures.text)))

pub returns-in_err-gather_deadlock-clause-text : goal.returns-in_err-gather_deadlock-clause-text
unfolding state_text
returns-in_err-gather_deadlock-clause-text g c =
    let p = err_from_is_err_and c.from_residual-in_err-gather_deadlock.result c.from_residual-in_err-gather_deadlock.ensures.1 in
    rw p.1 (IsCut-then c.in_ok-gather_counts.ensures.text (IsCut-then (rw c.stop.ensures at c.in_ok-gather_stop.ensures.text) (IsCut-then c.in_ok-gather_runner.ensures.text (IsCut-more _ c.in_err-gather_deadlock.ensures.text))))

pub returns-in_err-gather_registers-clause-text : goal.returns-in_err-gather_registers-clause-text
unfolding state_text
returns-in_err-gather_registers-clause-text g c =
    let p = err_from_is_err_and c.from_residual-in_err-gather_registers.result c.from_residual-in_err-gather_registers.ensures.1 in
    rw p.1 (IsCut-then c.in_ok-gather_counts.ensures.text (IsCut-then (rw c.stop.ensures at c.in_ok-gather_stop.ensures.text) (IsCut-then c.in_ok-gather_runner.ensures.text (IsCut-then c.in_ok-gather_deadlock.ensures.text (IsCut-more _ c.in_err-gather_registers.ensures.text)))))

pub returns-in_err-gather_next-clause-text : goal.returns-in_err-gather_next-clause-text
unfolding state_text
returns-in_err-gather_next-clause-text g c =
    let p = err_from_is_err_and c.from_residual-in_err-gather_next.result c.from_residual-in_err-gather_next.ensures.1 in
    rw p.1 (IsCut-then c.in_ok-gather_counts.ensures.text (IsCut-then (rw c.stop.ensures at c.in_ok-gather_stop.ensures.text) (IsCut-then c.in_ok-gather_runner.ensures.text (IsCut-then c.in_ok-gather_deadlock.ensures.text (IsCut-then c.in_ok-gather_registers.ensures.text (IsCut-more _ c.in_err-gather_next.ensures.text))))))

pub returns-clause-text : goal.returns-clause-text
unfolding state_text
returns-clause-text g c =
    let end = c.gather_lists in
    Gathers-then c.in_ok-gather_counts.ensures.text _ _ _ end.result (Gathers-then (rw c.stop.ensures at c.in_ok-gather_stop.ensures.text) _ _ _ end.result (Gathers-then c.in_ok-gather_runner.ensures.text _ _ _ end.result (Gathers-then c.in_ok-gather_deadlock.ensures.text _ _ _ end.result (Gathers-then c.in_ok-gather_registers.ensures.text _ _ _ end.result (gathers-last c.in_ok-gather_next.ensures.text _ _ _ end.result end.ensures.text)))))
