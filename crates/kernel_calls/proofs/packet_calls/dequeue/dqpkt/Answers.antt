use Rattle.std.proofs.Common.{Err, sym, ap, ◌∙◌, subst}
use Rattle.std.proofs.lemmas.Result.{err_from_is_err_and}
use Rattle.kernel_lists.specs.PacketQueue.Log.{Notes}
use Rattle.kernel_calls.specs.CallAnswers.CallChange.{IsMade}
use Rattle.kernel_calls.specs.PacketCalls.Dqpkt.{dqpkt}
use Rattle.kernel_calls.proofs.PacketCalls.DequeueCall.{found-packet, found-queue, is-dequeued, is-noted, not-dequeued, not-noted, not-queued, nowhere, residents-own, some-found}
use Rattle.kernel_calls.proofs.PacketCalls.NamedQueues.{Names, names-none, names-some, queue-none, queue-some}
use Rattle.kernel_calls.proofs.PacketCalls.Searches.{IsFound, found-none, found-some, is-found, not-found}
use Rattle.kernel_calls.proofs.packet_calls.dequeue.dqpkt.Goals as goal

pub returns-in_err-named-clause-made : goal.returns-in_err-named-clause-made
returns-in_err-named-clause-made g c = λ l k r.
    let e = err_from_is_err_and c.from_residual.result c.from_residual.ensures.1 in
    let s = c.args.store.now in
    let q = queue-none c.destination.result c.in_err-named.field-0.0 4 c.in_err-named.ensures.value in
    subst (λ z. IsMade s s (g.Q.KindKeeper.tells c.args.kinds.now) z (dqpkt l c.args.id c.args.p)) (sym (e.1 ∙ ap Err (e.2 ∙ q.1)))
    (not-dequeued s (g.Q.KindKeeper.tells c.args.kinds.now) (g.Q.KindKeeper.room c.args.kinds.now) l c.args.id c.args.p k 4
    (nowhere s (g.Q.KindKeeper.tells c.args.kinds.now) (g.Q.KindKeeper.room c.args.kinds.now) l c.args.id c.args.p k (names-none l c.args.id (sym (c.destination.ensures l k.lists) ∙ q.0))))

pub returns-in_err-named-clause-notes : goal.returns-in_err-named-clause-notes
returns-in_err-named-clause-notes g c = λ l k r.
    let s = c.args.store.now in
    let q = queue-none c.destination.result c.in_err-named.field-0.0 4 c.in_err-named.ensures.value in
    not-noted s (g.Q.KindKeeper.tells c.args.kinds.now) (g.Q.KindKeeper.room c.args.kinds.now) l c.args.id c.args.p k 4 (g.L.EventLog.noted c.args.log.now) (g.L.EventLog.has_failed c.args.log.now)
    (nowhere s (g.Q.KindKeeper.tells c.args.kinds.now) (g.Q.KindKeeper.room c.args.kinds.now) l c.args.id c.args.p k (names-none l c.args.id (sym (c.destination.ensures l k.lists) ∙ q.0)))

pub find_packet-requires : goal.find_packet-requires
find_packet-requires g c =
    let l = c.requires.0 in
    let k = c.requires.1 in
    let n : Names l c.args.id c.in_ok-named.named =
    names-some l c.args.id c.in_ok-named.named (sym (c.destination.ensures l k.lists) ∙ queue-some c.destination.result c.in_ok-named.named 4 c.in_ok-named.ensures.value)
    in
    (l, k.lists, c.requires.2, n.is, n.queue)

pub returns-in_err-found-clause-made : goal.returns-in_err-found-clause-made
returns-in_err-found-clause-made g c = λ l k r.
    let e = err_from_is_err_and c.from_residual-in_err-found.result c.from_residual-in_err-found.ensures.1 in
    let s = c.args.store.now in
    let n : Names l c.args.id c.in_ok-named.named =
    names-some l c.args.id c.in_ok-named.named (sym (c.destination.ensures l k.lists) ∙ queue-some c.destination.result c.in_ok-named.named 4 c.in_ok-named.ensures.value)
    in
    let f = found-none c.find_packet.result c.in_err-found.field-0.0 19 c.in_err-found.ensures.value in
    subst (λ z. IsMade s s (g.Q.KindKeeper.tells c.args.kinds.now) z (dqpkt l c.args.id c.args.p)) (sym (e.1 ∙ ap Err (e.2 ∙ f.1)))
    (not-dequeued s (g.Q.KindKeeper.tells c.args.kinds.now) (g.Q.KindKeeper.room c.args.kinds.now) l c.args.id c.args.p k 19
    (not-queued s (g.Q.KindKeeper.tells c.args.kinds.now) (g.Q.KindKeeper.room c.args.kinds.now) l c.args.id c.args.p k n.is
    (not-found l c.args.id c.args.p (sym f.0 ∙ c.find_packet.ensures l k.lists r n.is n.queue))))

pub returns-in_err-found-clause-notes : goal.returns-in_err-found-clause-notes
returns-in_err-found-clause-notes g c = λ l k r.
    let s = c.args.store.now in
    let n : Names l c.args.id c.in_ok-named.named =
    names-some l c.args.id c.in_ok-named.named (sym (c.destination.ensures l k.lists) ∙ queue-some c.destination.result c.in_ok-named.named 4 c.in_ok-named.ensures.value)
    in
    let f = found-none c.find_packet.result c.in_err-found.field-0.0 19 c.in_err-found.ensures.value in
    not-noted s (g.Q.KindKeeper.tells c.args.kinds.now) (g.Q.KindKeeper.room c.args.kinds.now) l c.args.id c.args.p k 19 (g.L.EventLog.noted c.args.log.now) (g.L.EventLog.has_failed c.args.log.now)
    (not-queued s (g.Q.KindKeeper.tells c.args.kinds.now) (g.Q.KindKeeper.room c.args.kinds.now) l c.args.id c.args.p k n.is
    (not-found l c.args.id c.args.p (sym f.0 ∙ c.find_packet.ensures l k.lists r n.is n.queue)))

pub returns-then-is_residents_packet-clause-made : goal.returns-then-is_residents_packet-clause-made
returns-then-is_residents_packet-clause-made g c = λ l k r.
    let s = c.args.store.now in
    let n : Names l c.args.id c.in_ok-named.named =
    names-some l c.args.id c.in_ok-named.named (sym (c.destination.ensures l k.lists) ∙ queue-some c.destination.result c.in_ok-named.named 4 c.in_ok-named.ensures.value)
    in
    let x : IsFound l c.args.id c.args.p c.in_ok-found.found =
    is-found l c.args.id c.args.p c.in_ok-found.found (sym (found-some c.find_packet.result c.in_ok-found.found 19 c.in_ok-found.ensures.value) ∙ c.find_packet.ensures l k.lists r n.is n.queue)
    in
    not-dequeued s (g.Q.KindKeeper.tells c.args.kinds.now) (g.Q.KindKeeper.room c.args.kinds.now) l c.args.id c.args.p k 14
    (residents-own s (g.Q.KindKeeper.tells c.args.kinds.now) (g.Q.KindKeeper.room c.args.kinds.now) l c.args.id c.args.p k n.is
    (some-found s (g.Q.KindKeeper.tells c.args.kinds.now) (g.Q.KindKeeper.room c.args.kinds.now) l c.args.id c.args.p k c.in_ok-found.found x)
    (sym (c.is_residents_packet.ensures l k.lists) ∙ c.if-is_residents_packet.true))

pub returns-then-is_residents_packet-clause-notes : goal.returns-then-is_residents_packet-clause-notes
returns-then-is_residents_packet-clause-notes g c = λ l k r.
    let s = c.args.store.now in
    let n : Names l c.args.id c.in_ok-named.named =
    names-some l c.args.id c.in_ok-named.named (sym (c.destination.ensures l k.lists) ∙ queue-some c.destination.result c.in_ok-named.named 4 c.in_ok-named.ensures.value)
    in
    let x : IsFound l c.args.id c.args.p c.in_ok-found.found =
    is-found l c.args.id c.args.p c.in_ok-found.found (sym (found-some c.find_packet.result c.in_ok-found.found 19 c.in_ok-found.ensures.value) ∙ c.find_packet.ensures l k.lists r n.is n.queue)
    in
    not-noted s (g.Q.KindKeeper.tells c.args.kinds.now) (g.Q.KindKeeper.room c.args.kinds.now) l c.args.id c.args.p k 14 (g.L.EventLog.noted c.args.log.now) (g.L.EventLog.has_failed c.args.log.now)
    (residents-own s (g.Q.KindKeeper.tells c.args.kinds.now) (g.Q.KindKeeper.room c.args.kinds.now) l c.args.id c.args.p k n.is
    (some-found s (g.Q.KindKeeper.tells c.args.kinds.now) (g.Q.KindKeeper.room c.args.kinds.now) l c.args.id c.args.p k c.in_ok-found.found x)
    (sym (c.is_residents_packet.ensures l k.lists) ∙ c.if-is_residents_packet.true))

pub unqueue-requires-clause-queue : goal.unqueue-requires-clause-queue
unqueue-requires-clause-queue g c =
    let l = c.requires.0 in
    let k = c.requires.1 in
    let n : Names l c.args.id c.in_ok-named.named =
    names-some l c.args.id c.in_ok-named.named (sym (c.destination.ensures l k.lists) ∙ queue-some c.destination.result c.in_ok-named.named 4 c.in_ok-named.ensures.value)
    in
    let x : IsFound l c.args.id c.args.p c.in_ok-found.found =
    is-found l c.args.id c.args.p c.in_ok-found.found (sym (found-some c.find_packet.result c.in_ok-found.found 19 c.in_ok-found.ensures.value) ∙ c.find_packet.ensures l k.lists c.requires.2 n.is n.queue)
    in
    found-queue c.args.store.now (g.Q.KindKeeper.tells c.args.kinds.now) (g.Q.KindKeeper.room c.args.kinds.now) l c.args.id c.args.p k c.in_ok-found.found x

pub unqueue-requires-clause-packet : goal.unqueue-requires-clause-packet
unqueue-requires-clause-packet g c =
    let l = c.requires.0 in
    let k = c.requires.1 in
    let n : Names l c.args.id c.in_ok-named.named =
    names-some l c.args.id c.in_ok-named.named (sym (c.destination.ensures l k.lists) ∙ queue-some c.destination.result c.in_ok-named.named 4 c.in_ok-named.ensures.value)
    in
    let x : IsFound l c.args.id c.args.p c.in_ok-found.found =
    is-found l c.args.id c.args.p c.in_ok-found.found (sym (found-some c.find_packet.result c.in_ok-found.found 19 c.in_ok-found.ensures.value) ∙ c.find_packet.ensures l k.lists c.requires.2 n.is n.queue)
    in
    found-packet c.args.store.now (g.Q.KindKeeper.tells c.args.kinds.now) (g.Q.KindKeeper.room c.args.kinds.now) l c.args.id c.args.p k c.in_ok-found.found x

pub returns-clause-made : goal.returns-clause-made
returns-clause-made g c = λ l k r.
    let n : Names l c.args.id c.in_ok-named.named =
    names-some l c.args.id c.in_ok-named.named (sym (c.destination.ensures l k.lists) ∙ queue-some c.destination.result c.in_ok-named.named 4 c.in_ok-named.ensures.value)
    in
    let x : IsFound l c.args.id c.args.p c.in_ok-found.found =
    is-found l c.args.id c.args.p c.in_ok-found.found (sym (found-some c.find_packet.result c.in_ok-found.found 19 c.in_ok-found.ensures.value) ∙ c.find_packet.ensures l k.lists r n.is n.queue)
    in
    is-dequeued c.args.store.now (g.Q.KindKeeper.tells c.args.kinds.now) (g.Q.KindKeeper.room c.args.kinds.now) l c.args.id c.args.p k c.in_ok-found.found x n.is
    (sym (c.is_residents_packet.ensures l k.lists) ∙ c.if-is_residents_packet.false) c.unqueue.new.store c.unqueue.ensures c.set_word_at.new.store (g.Q.KindKeeper.tells c.release.new.self)
    c.set_word_at.ensures c.release.ensures.tells

pub returns-clause-notes : goal.returns-clause-notes
returns-clause-notes g c = λ l k r.
    let n : Names l c.args.id c.in_ok-named.named =
    names-some l c.args.id c.in_ok-named.named (sym (c.destination.ensures l k.lists) ∙ queue-some c.destination.result c.in_ok-named.named 4 c.in_ok-named.ensures.value)
    in
    let x : IsFound l c.args.id c.args.p c.in_ok-found.found =
    is-found l c.args.id c.args.p c.in_ok-found.found (sym (found-some c.find_packet.result c.in_ok-found.found 19 c.in_ok-found.ensures.value) ∙ c.find_packet.ensures l k.lists r n.is n.queue)
    in
    is-noted c.args.store.now (g.Q.KindKeeper.tells c.args.kinds.now) (g.Q.KindKeeper.room c.args.kinds.now) l c.args.id c.args.p k c.in_ok-found.found x n.is
    (sym (c.is_residents_packet.ensures l k.lists) ∙ c.if-is_residents_packet.false) (g.L.EventLog.noted c.args.log.now) (g.L.EventLog.noted c.note.new.self) (g.L.EventLog.has_failed c.args.log.now)
    (g.L.EventLog.has_failed c.note.new.self)
    (subst (λ e. Notes (g.L.EventLog.noted c.args.log.now) (g.L.EventLog.noted c.note.new.self) (g.L.EventLog.has_failed c.args.log.now) (g.L.EventLog.has_failed c.note.new.self) e) c.dequeued.ensures
    c.note.ensures)
