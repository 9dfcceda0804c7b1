use Rattle.std.proofs.Common.{◌∙◌, sym, subst, Some}
use Rattle.word_store.specs.Arithmetic.{signed}
use Rattle.kernel_lists.specs.PacketQueue.Log.{Notes}
use Rattle.kernel_lists.specs.declared.packet_queue.events.KernelEvent.TheVariants.{Taken}
use Rattle.kernel_calls.proofs.CallAnswers.RootTold.{running-word}
use Rattle.resident_tasks.specs.ResidentRequests.Requests.{IsTaken}
use Rattle.resident_tasks.proofs.ResidentRequests.TakenRequest.{none-noted, none-taken, some-noted, some-taken, take-packet, take-queue}
use Rattle.resident_tasks.proofs.resident_requests.requests.take_request.Goals as goal

pub returns-then-p-eq0-clause-taken : goal.returns-then-p-eq0-clause-taken
returns-then-p-eq0-clause-taken g c = λ l k r.
    none-taken c.args.store.now (g.Q.KindKeeper.tells c.args.kinds.now) (g.Q.KindKeeper.room c.args.kinds.now) l k r c.root-task.result (c.root-task.ensures ∙ running-word c.args.store.now l k.lists)
    (sym c.field-p.ensures ∙ c.if-p-eq0.true)

pub returns-then-p-eq0-clause-notes : goal.returns-then-p-eq0-clause-notes
returns-then-p-eq0-clause-notes g c = λ l k r.
    none-noted c.args.store.now (g.Q.KindKeeper.tells c.args.kinds.now) (g.Q.KindKeeper.room c.args.kinds.now) l k r c.root-task.result (c.root-task.ensures ∙ running-word c.args.store.now l k.lists)
    (sym c.field-p.ensures ∙ c.if-p-eq0.true) (g.L.EventLog.noted c.args.log.now) (g.L.EventLog.has_failed c.args.log.now)

pub unqueue-requires-clause-queue : goal.unqueue-requires-clause-queue
unqueue-requires-clause-queue g c =
    let l = c.requires.0 in
    let k = c.requires.1 in
    take-queue c.args.store.now (g.Q.KindKeeper.tells c.args.kinds.now) (g.Q.KindKeeper.room c.args.kinds.now) l k c.requires.2 c.root-task.result (c.root-task.ensures ∙ running-word c.args.store.now l k.lists)
    c.field-p.result c.field-p.ensures c.if-p-eq0.false

pub unqueue-requires-clause-packet : goal.unqueue-requires-clause-packet
unqueue-requires-clause-packet g c =
    let l = c.requires.0 in
    let k = c.requires.1 in
    take-packet c.args.store.now (g.Q.KindKeeper.tells c.args.kinds.now) (g.Q.KindKeeper.room c.args.kinds.now) l k c.requires.2 c.root-task.result (c.root-task.ensures ∙ running-word c.args.store.now l k.lists)
    c.field-p.result c.field-p.ensures c.if-p-eq0.false

pub returns-clause-taken : goal.returns-clause-taken
returns-clause-taken g c = λ l k r.
    subst (λ q. IsTaken c.args.store.now c.unqueue.new.store (g.Q.KindKeeper.tells c.release.new.self) l (Some q)) (sym c.request_at.ensures)
    (some-taken c.args.store.now (g.Q.KindKeeper.tells c.args.kinds.now) (g.Q.KindKeeper.room c.args.kinds.now) l k r c.root-task.result (c.root-task.ensures ∙ running-word c.args.store.now l k.lists)
    c.field-p.result c.field-p.ensures c.if-p-eq0.false c.unqueue.new.store c.unqueue.ensures (g.Q.KindKeeper.tells c.release.new.self) c.release.ensures.tells)

pub returns-clause-notes : goal.returns-clause-notes
returns-clause-notes g c = λ l k r.
    some-noted c.args.store.now (g.Q.KindKeeper.tells c.args.kinds.now) (g.Q.KindKeeper.room c.args.kinds.now) l k r c.root-task.result (c.root-task.ensures ∙ running-word c.args.store.now l k.lists)
    c.field-p.result c.field-p.ensures c.if-p-eq0.false c.unqueue.new.store c.unqueue.ensures (g.L.EventLog.noted c.args.log.now) (g.L.EventLog.noted c.note.new.self) (g.L.EventLog.has_failed c.args.log.now)
    (g.L.EventLog.has_failed c.note.new.self)
    (subst (λ e. Notes (g.L.EventLog.noted c.args.log.now) (g.L.EventLog.noted c.note.new.self) (g.L.EventLog.has_failed c.args.log.now) (g.L.EventLog.has_failed c.note.new.self) e)
    (c.taken.ensures ∙ (λ i. Taken (signed (c.field-id.ensures i)) c.field-p.result (signed (c.word_at.ensures i)))) c.note.ensures)
