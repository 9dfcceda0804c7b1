use Rattle.std.proofs.Common.{◌≡◌, ◌∙◌, sym, subst, true}
use Rattle.word_store.specs.Arithmetic.{signed}
use Rattle.kernel_lists.specs.PacketQueue.Log.{Notes}
use Rattle.kernel_lists.specs.declared.packet_queue.events.KernelEvent.TheVariants.{Taken}
use Rattle.kernel_model.specs.KernelDispatch.Dispatch.{takes_packet}
use Rattle.kernel_model.specs.KernelDispatch.Private.DispatchWords.{takes_packet_by}
use Rattle.kernel_model.proofs.KernelDispatch.TakenWork.{none-taken, one-taken, some-taken, takes-told, valid-queue}
use Rattle.kernel_model.proofs.kernel_dispatch.resumption.take_due.Goals as goal

pub returns-then-not-takes_packet-clause-taken : goal.returns-then-not-takes_packet-clause-taken
returns-then-not-takes_packet-clause-taken g c = λ l w k n.
    none-taken c.args.store.now (g.Q.KindKeeper.tells c.args.kinds.now) (g.Q.KindKeeper.room c.args.kinds.now) l w c.args.t k n (g.L.EventLog.noted c.args.log.now) (g.L.EventLog.has_failed c.args.log.now)
    (sym (takes-told c.args.store.now (g.Q.KindKeeper.tells c.args.kinds.now) (g.Q.KindKeeper.room c.args.kinds.now) l w c.args.t k n)
    ∙ (λ i. takes_packet_by (sym c.field-id.ensures i) (sym c.field.ensures i)) ∙ sym c.takes_packet.ensures ∙ c.if-not-takes_packet.true)

pub take_work-requires-clause-queue : goal.take_work-requires-clause-queue
take_work-requires-clause-queue g c =
    valid-queue c.args.store.now (g.Q.KindKeeper.tells c.args.kinds.now) (g.Q.KindKeeper.room c.args.kinds.now) c.requires.0 c.requires.1 c.args.t c.requires.2 c.requires.3

pub returns-in_default-clause-taken : goal.returns-in_default-clause-taken
returns-in_default-clause-taken g c = λ l w k n.
    let takes : takes_packet w ≡ true =
    sym (takes-told c.args.store.now (g.Q.KindKeeper.tells c.args.kinds.now) (g.Q.KindKeeper.room c.args.kinds.now) l w c.args.t k n)
    ∙ (λ i. takes_packet_by (sym c.field-id.ensures i) (sym c.field.ensures i)) ∙ sym c.takes_packet.ensures ∙ c.if-not-takes_packet.false
    in
    absurd (some-taken c.args.store.now (g.Q.KindKeeper.tells c.args.kinds.now) (g.Q.KindKeeper.room c.args.kinds.now) l w c.args.t k n c.take_work.result takes c.take_work.ensures.first c.in_default.is)

pub returns-clause-taken : goal.returns-clause-taken
returns-clause-taken g c = λ l w k n.
    let takes : takes_packet w ≡ true =
    sym (takes-told c.args.store.now (g.Q.KindKeeper.tells c.args.kinds.now) (g.Q.KindKeeper.room c.args.kinds.now) l w c.args.t k n)
    ∙ (λ i. takes_packet_by (sym c.field-id.ensures i) (sym c.field.ensures i)) ∙ sym c.takes_packet.ensures ∙ c.if-not-takes_packet.false
    in
    one-taken c.args.store.now (g.Q.KindKeeper.tells c.args.kinds.now) (g.Q.KindKeeper.room c.args.kinds.now) l w c.args.t k n c.take_work.new.store c.take_work.result c.in-Some.packet
    (g.Q.KindKeeper.tells c.release.new.self) (g.L.EventLog.noted c.args.log.now) (g.L.EventLog.noted c.note.new.self) (g.L.EventLog.has_failed c.args.log.now) (g.L.EventLog.has_failed c.note.new.self)
    takes c.take_work.ensures.first c.in-Some.is c.in-Some.ensures.words c.release.ensures.tells
    (subst (λ e. Notes (g.L.EventLog.noted c.args.log.now) (g.L.EventLog.noted c.note.new.self) (g.L.EventLog.has_failed c.args.log.now) (g.L.EventLog.has_failed c.note.new.self) e)
    (c.taken.ensures ∙ (λ i. Taken (signed (c.field-id.ensures i)) c.in-Some.packet (signed (c.word_at.ensures i)))) c.note.ensures)
