use Rattle.std.proofs.Common.{◌+◌, Err, get_or, sym, ap, ◌∙◌, subst}
use Rattle.std.proofs.lemmas.Result.{err_from_is_err_and}
use Rattle.word_store.specs.Arithmetic.{signed}
use Rattle.kernel_lists.specs.PacketQueue.Log.{Notes}
use Rattle.kernel_lists.specs.declared.packet_queue.events.KernelEvent.TheVariants.{Accepted}
use Rattle.kernel_calls.specs.CallAnswers.CallChange.{IsMade, plain_answer}
use Rattle.kernel_calls.specs.CallAnswers.Refusals.{first_refusal}
use Rattle.kernel_calls.proofs.CallAnswers.Refusals.{answer_of-ok, answer_of-err}
use Rattle.kernel_calls.specs.PacketCalls.Destinations.{destination_of}
use Rattle.kernel_calls.specs.PacketCalls.Qpkt.{packet_tests, qpkt}
use Rattle.kernel_calls.proofs.PacketCalls.NamedQueues.{names-none, names-some, queue-none, queue-some}
use Rattle.kernel_calls.proofs.PacketCalls.SendCall.{is-noted, is-sent, misplaced, not-noted, not-sent, nowhere, send-packet, send-queue, send-room}
use Rattle.kernel_calls.proofs.packet_calls.send.qpkt.Goals as goal

pub returns-in_err-check_packet-clause-made : goal.returns-in_err-check_packet-clause-made
returns-in_err-check_packet-clause-made g c = λ l k r.
    let p = err_from_is_err_and c.from_residual.result c.from_residual.ensures.1 in
    let s = c.args.store.now in
    let code = c.in_err-check_packet.field-0.0 in
    subst (λ z. IsMade s s (g.Q.KindKeeper.tells c.args.kinds.now) (plain_answer z) (qpkt s l c.args.p)) (sym (p.1 ∙ ap Err p.2))
    (not-sent s (g.Q.KindKeeper.tells c.args.kinds.now) (g.Q.KindKeeper.room c.args.kinds.now) l c.args.p k code
    (misplaced s (g.Q.KindKeeper.tells c.args.kinds.now) (g.Q.KindKeeper.room c.args.kinds.now) l c.args.p k code
    (answer_of-err (first_refusal (packet_tests s l c.args.p)) code (c.in_err-check_packet.ensures l k))))

pub returns-in_err-check_packet-clause-notes : goal.returns-in_err-check_packet-clause-notes
returns-in_err-check_packet-clause-notes g c = λ l k r.
    let s = c.args.store.now in
    let code = c.in_err-check_packet.field-0.0 in
    not-noted s (g.Q.KindKeeper.tells c.args.kinds.now) (g.Q.KindKeeper.room c.args.kinds.now) l c.args.p k code (g.L.EventLog.noted c.args.log.now) (g.L.EventLog.has_failed c.args.log.now)
    (misplaced s (g.Q.KindKeeper.tells c.args.kinds.now) (g.Q.KindKeeper.room c.args.kinds.now) l c.args.p k code
    (answer_of-err (first_refusal (packet_tests s l c.args.p)) code (c.in_err-check_packet.ensures l k)))

pub returns-in_err-queue-clause-made : goal.returns-in_err-queue-clause-made
returns-in_err-queue-clause-made g c = λ l k r.
    let p = err_from_is_err_and c.from_residual-in_err-queue.result c.from_residual-in_err-queue.ensures.1 in
    let s = c.args.store.now in
    let q = queue-none c.destination.result c.in_err-queue.field-0.0 4 c.in_err-queue.ensures.value in
    subst (λ z. IsMade s s (g.Q.KindKeeper.tells c.args.kinds.now) (plain_answer z) (qpkt s l c.args.p)) (sym (p.1 ∙ ap Err (p.2 ∙ q.1)))
    (not-sent s (g.Q.KindKeeper.tells c.args.kinds.now) (g.Q.KindKeeper.room c.args.kinds.now) l c.args.p k 4
    (nowhere s (g.Q.KindKeeper.tells c.args.kinds.now) (g.Q.KindKeeper.room c.args.kinds.now) l c.args.p k
    (answer_of-ok (first_refusal (packet_tests s l c.args.p)) _ (c.in_ok-check_packet.ensures l k))
    (names-none l (get_or s (c.args.p + 1) 0) (ap (destination_of l) (sym c.word_at-number.ensures) ∙ sym (c.destination.ensures l k.lists) ∙ q.0))))

pub returns-in_err-queue-clause-notes : goal.returns-in_err-queue-clause-notes
returns-in_err-queue-clause-notes g c = λ l k r.
    let s = c.args.store.now in
    let q = queue-none c.destination.result c.in_err-queue.field-0.0 4 c.in_err-queue.ensures.value in
    not-noted s (g.Q.KindKeeper.tells c.args.kinds.now) (g.Q.KindKeeper.room c.args.kinds.now) l c.args.p k 4 (g.L.EventLog.noted c.args.log.now) (g.L.EventLog.has_failed c.args.log.now)
    (nowhere s (g.Q.KindKeeper.tells c.args.kinds.now) (g.Q.KindKeeper.room c.args.kinds.now) l c.args.p k
    (answer_of-ok (first_refusal (packet_tests s l c.args.p)) _ (c.in_ok-check_packet.ensures l k))
    (names-none l (get_or s (c.args.p + 1) 0) (ap (destination_of l) (sym c.word_at-number.ensures) ∙ sym (c.destination.ensures l k.lists) ∙ q.0)))

pub send-requires-clause-queue : goal.send-requires-clause-queue
send-requires-clause-queue g c =
    let l = c.requires.0 in
    let k = c.requires.1 in
    let r = c.requires.2 in
    send-queue c.args.store.now (g.Q.KindKeeper.tells c.args.kinds.now) (g.Q.KindKeeper.room c.args.kinds.now) l c.args.p k r c.caller.result (c.caller.ensures l k.lists r)
    (answer_of-ok (first_refusal (packet_tests c.args.store.now l c.args.p)) _ (c.in_ok-check_packet.ensures l k)) c.in_ok-queue.queue
    (names-some l (get_or c.args.store.now (c.args.p + 1) 0) c.in_ok-queue.queue
    (ap (destination_of l) (sym c.word_at-number.ensures) ∙ sym (c.destination.ensures l k.lists) ∙ queue-some c.destination.result c.in_ok-queue.queue 4 c.in_ok-queue.ensures.value))
    c.field-sender.result c.field-sender.ensures

pub send-requires-clause-packet : goal.send-requires-clause-packet
send-requires-clause-packet g c =
    let l = c.requires.0 in
    let k = c.requires.1 in
    let r = c.requires.2 in
    send-packet c.args.store.now (g.Q.KindKeeper.tells c.args.kinds.now) (g.Q.KindKeeper.room c.args.kinds.now) l c.args.p k r c.caller.result (c.caller.ensures l k.lists r)
    (answer_of-ok (first_refusal (packet_tests c.args.store.now l c.args.p)) _ (c.in_ok-check_packet.ensures l k)) c.in_ok-queue.queue
    (names-some l (get_or c.args.store.now (c.args.p + 1) 0) c.in_ok-queue.queue
    (ap (destination_of l) (sym c.word_at-number.ensures) ∙ sym (c.destination.ensures l k.lists) ∙ queue-some c.destination.result c.in_ok-queue.queue 4 c.in_ok-queue.ensures.value))
    c.field-sender.result c.field-sender.ensures

pub claim-requires : goal.claim-requires
claim-requires g c =
    let l = c.requires.0 in
    let k = c.requires.1 in
    let r = c.requires.2 in
    send-room c.args.store.now (g.Q.KindKeeper.tells c.args.kinds.now) (g.Q.KindKeeper.room c.args.kinds.now) l c.args.p k r c.caller.result (c.caller.ensures l k.lists r)
    (answer_of-ok (first_refusal (packet_tests c.args.store.now l c.args.p)) _ (c.in_ok-check_packet.ensures l k)) c.in_ok-queue.queue
    (names-some l (get_or c.args.store.now (c.args.p + 1) 0) c.in_ok-queue.queue
    (ap (destination_of l) (sym c.word_at-number.ensures) ∙ sym (c.destination.ensures l k.lists) ∙ queue-some c.destination.result c.in_ok-queue.queue 4 c.in_ok-queue.ensures.value))

pub returns-clause-made : goal.returns-clause-made
returns-clause-made g c = λ l k r.
    is-sent c.args.store.now (g.Q.KindKeeper.tells c.args.kinds.now) (g.Q.KindKeeper.room c.args.kinds.now) l c.args.p k r c.caller.result (c.caller.ensures l k.lists r)
    (answer_of-ok (first_refusal (packet_tests c.args.store.now l c.args.p)) _ (c.in_ok-check_packet.ensures l k)) c.in_ok-queue.queue
    (names-some l (get_or c.args.store.now (c.args.p + 1) 0) c.in_ok-queue.queue
    (ap (destination_of l) (sym c.word_at-number.ensures) ∙ sym (c.destination.ensures l k.lists) ∙ queue-some c.destination.result c.in_ok-queue.queue 4 c.in_ok-queue.ensures.value))
    c.field-sender.result c.field-sender.ensures c.send.new.store (g.Q.KindKeeper.tells c.claim.new.self) c.send.ensures c.claim.ensures.tells

pub returns-clause-notes : goal.returns-clause-notes
returns-clause-notes g c = λ l k r.
    is-noted c.args.store.now (g.Q.KindKeeper.tells c.args.kinds.now) (g.Q.KindKeeper.room c.args.kinds.now) l c.args.p k r c.caller.result (c.caller.ensures l k.lists r)
    (answer_of-ok (first_refusal (packet_tests c.args.store.now l c.args.p)) _ (c.in_ok-check_packet.ensures l k)) c.in_ok-queue.queue
    (names-some l (get_or c.args.store.now (c.args.p + 1) 0) c.in_ok-queue.queue
    (ap (destination_of l) (sym c.word_at-number.ensures) ∙ sym (c.destination.ensures l k.lists) ∙ queue-some c.destination.result c.in_ok-queue.queue 4 c.in_ok-queue.ensures.value))
    c.field-sender.result c.field-sender.ensures (g.L.EventLog.noted c.args.log.now) (g.L.EventLog.noted c.note.new.self) (g.L.EventLog.has_failed c.args.log.now) (g.L.EventLog.has_failed c.note.new.self)
    (subst (λ e. Notes (g.L.EventLog.noted c.args.log.now) (g.L.EventLog.noted c.note.new.self) (g.L.EventLog.has_failed c.args.log.now) (g.L.EventLog.has_failed c.note.new.self) e)
    (c.accepted.ensures ∙ (λ i. Accepted (signed (c.word_at-number.ensures i)) c.args.p (signed c.field-sender.result))) c.note.ensures)
