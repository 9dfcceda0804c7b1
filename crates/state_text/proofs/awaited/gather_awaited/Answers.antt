use Rattle.std.proofs.lemmas.Result.{err_from_is_err_and}
use Rattle.byte_streams.proofs.GatheredTexts.{Gathers-then, IsCut-more, IsCut-then}
use Rattle.kernel_model.specs.KernelRecord.Recovered.{lists_in}
use Rattle.state_text.specs.AwaitedPackets.{awaited_lines}
use Rattle.state_text.proofs.GatheredLines.{gathers-last}
use Rattle.state_text.proofs.awaited.gather_awaited.Goals as goal

pub returns-in_err-gather_sent-clause-text : goal.returns-in_err-gather_sent-clause-text
unfolding lists_in awaited_lines
returns-in_err-gather_sent-clause-text g c =
    let p = err_from_is_err_and c.from_residual.result c.from_residual.ensures.1 in
    rw p.1 (IsCut-more _ (rw c.address-clock.ensures at c.in_err-gather_sent.ensures.text))

pub returns-in_err-gather_sent-2-clause-text : goal.returns-in_err-gather_sent-2-clause-text
unfolding lists_in awaited_lines
returns-in_err-gather_sent-2-clause-text g c =
    let p = err_from_is_err_and c.from_residual-in_err-gather_sent-2.result c.from_residual-in_err-gather_sent-2.ensures.1 in
    rw p.1 (IsCut-then (rw c.address-clock.ensures at c.in_ok-gather_sent.ensures.text) (IsCut-more _ (rw c.address-keyboard.ensures at c.in_err-gather_sent-2.ensures.text)))

pub returns-in_err-gather_sent-3-clause-text : goal.returns-in_err-gather_sent-3-clause-text
unfolding lists_in awaited_lines
returns-in_err-gather_sent-3-clause-text g c =
    let p = err_from_is_err_and c.from_residual-in_err-gather_sent-3.result c.from_residual-in_err-gather_sent-3.ensures.1 in
    rw p.1 (IsCut-then (rw c.address-clock.ensures at c.in_ok-gather_sent.ensures.text) (IsCut-then (rw c.address-keyboard.ensures at c.in_ok-gather_sent-2.ensures.text) (IsCut-more _ (rw c.address-output.ensures at c.in_err-gather_sent-3.ensures.text))))

pub returns-in_err-gather_sent_reads-clause-text : goal.returns-in_err-gather_sent_reads-clause-text
unfolding lists_in awaited_lines
returns-in_err-gather_sent_reads-clause-text g c =
    let p = err_from_is_err_and c.from_residual-in_err-gather_sent_reads.result c.from_residual-in_err-gather_sent_reads.ensures.1 in
    rw p.1 (IsCut-then (rw c.address-clock.ensures at c.in_ok-gather_sent.ensures.text) (IsCut-then (rw c.address-keyboard.ensures at c.in_ok-gather_sent-2.ensures.text) (IsCut-then (rw c.address-output.ensures at c.in_ok-gather_sent-3.ensures.text) (IsCut-more _ c.in_err-gather_sent_reads.ensures.text))))

pub returns-in_err-gather_sent_to_tasks-clause-text : goal.returns-in_err-gather_sent_to_tasks-clause-text
unfolding lists_in awaited_lines
returns-in_err-gather_sent_to_tasks-clause-text g c =
    let p = err_from_is_err_and c.from_residual-in_err-gather_sent_to_tasks.result c.from_residual-in_err-gather_sent_to_tasks.ensures.1 in
    rw p.1 (IsCut-then (rw c.address-clock.ensures at c.in_ok-gather_sent.ensures.text) (IsCut-then (rw c.address-keyboard.ensures at c.in_ok-gather_sent-2.ensures.text) (IsCut-then (rw c.address-output.ensures at c.in_ok-gather_sent-3.ensures.text) (IsCut-then c.in_ok-gather_sent_reads.ensures.text (IsCut-more _ c.in_err-gather_sent_to_tasks.ensures.text)))))

pub returns-clause-text : goal.returns-clause-text
unfolding lists_in awaited_lines
returns-clause-text g c =
    let end = c.gather_none in
    Gathers-then (rw c.address-clock.ensures at c.in_ok-gather_sent.ensures.text) _ _ _ end.result (Gathers-then (rw c.address-keyboard.ensures at c.in_ok-gather_sent-2.ensures.text) _ _ _ end.result (Gathers-then (rw c.address-output.ensures at c.in_ok-gather_sent-3.ensures.text) _ _ _ end.result (Gathers-then c.in_ok-gather_sent_reads.ensures.text _ _ _ end.result (gathers-last c.in_ok-gather_sent_to_tasks.ensures.text _ _ _ end.result end.ensures.text))))
