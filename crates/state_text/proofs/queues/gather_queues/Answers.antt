use Rattle.std.proofs.lemmas.Result.{err_from_is_err_and}
use Rattle.byte_streams.proofs.GatheredTexts.{Gathers-then, IsCut-more, IsCut-then}
use Rattle.kernel_model.specs.KernelRecord.Recovered.{lists_in}
use Rattle.state_text.specs.PacketTexts.{queues_text}
use Rattle.state_text.proofs.GatheredLines.{gathers-last}
use Rattle.state_text.proofs.queues.gather_queues.Goals as goal

pub returns-in_err-gather-clause-text : goal.returns-in_err-gather-clause-text
unfolding lists_in queues_text
returns-in_err-gather-clause-text g c =
    let p = err_from_is_err_and c.from_residual.result c.from_residual.ensures.1 in
    rw p.1 (IsCut-more _ c.in_err-gather.ensures.text)

pub returns-in_err-gather_packets-clause-text : goal.returns-in_err-gather_packets-clause-text
unfolding lists_in queues_text
returns-in_err-gather_packets-clause-text g c =
    let p = err_from_is_err_and c.from_residual-in_err-gather_packets.result c.from_residual-in_err-gather_packets.ensures.1 in
    rw p.1 (IsCut-then c.in_ok-gather.ensures.text (IsCut-more _ (rw c.address-clock.ensures at c.in_err-gather_packets.ensures.text)))

pub returns-in_err-gather_packets-2-clause-text : goal.returns-in_err-gather_packets-2-clause-text
unfolding lists_in queues_text
returns-in_err-gather_packets-2-clause-text g c =
    let p = err_from_is_err_and c.from_residual-in_err-gather_packets-2.result c.from_residual-in_err-gather_packets-2.ensures.1 in
    rw p.1 (IsCut-then c.in_ok-gather.ensures.text (IsCut-then (rw c.address-clock.ensures at c.in_ok-gather_packets.ensures.text) (IsCut-more _ (rw c.address-keyboard.ensures at c.in_err-gather_packets-2.ensures.text))))

pub returns-in_err-gather_packets-3-clause-text : goal.returns-in_err-gather_packets-3-clause-text
unfolding lists_in queues_text
returns-in_err-gather_packets-3-clause-text g c =
    let p = err_from_is_err_and c.from_residual-in_err-gather_packets-3.result c.from_residual-in_err-gather_packets-3.ensures.1 in
    rw p.1 (IsCut-then c.in_ok-gather.ensures.text (IsCut-then (rw c.address-clock.ensures at c.in_ok-gather_packets.ensures.text) (IsCut-then (rw c.address-keyboard.ensures at c.in_ok-gather_packets-2.ensures.text) (IsCut-more _ (rw c.address-output.ensures at c.in_err-gather_packets-3.ensures.text)))))

pub returns-clause-text : goal.returns-clause-text
unfolding lists_in queues_text
returns-clause-text g c =
    let end = c.gather_reads in
    Gathers-then c.in_ok-gather.ensures.text _ _ _ end.result (Gathers-then (rw c.address-clock.ensures at c.in_ok-gather_packets.ensures.text) _ _ _ end.result (Gathers-then (rw c.address-keyboard.ensures at c.in_ok-gather_packets-2.ensures.text) _ _ _ end.result (gathers-last (rw c.address-output.ensures at c.in_ok-gather_packets-3.ensures.text) _ _ _ end.result end.ensures.text)))
