use Rattle.std.proofs.Common.{◌∙◌, sym, subst, Some}
use Rattle.word_store.specs.Arithmetic.{signed}
use Rattle.kernel_lists.specs.PacketQueue.Log.{Notes}
use Rattle.kernel_lists.specs.declared.packet_queue.events.KernelEvent.TheVariants.{Taken}
use Rattle.kernel_calls.proofs.PacketCalls.HeldPlaces.{valid-at}
use Rattle.kernel_model.specs.KernelRecord.ValidQueues.Place.{Pending}
use Rattle.kernel_model.specs.declared.kernel_record.numbers.TheConstants.{PENDING}
use Rattle.resident_tasks.specs.ConsoleHandler.Reads.{IsReadTaken}
use Rattle.resident_tasks.proofs.ConsoleHandler.WaitingReads.{none-noted, none-waits, read-noted, read-packet, read-queue, read-taken}
use Rattle.resident_tasks.proofs.console_handler.reads.take_read.Goals as goal

pub first-p-requires : goal.first-p-requires
first-p-requires g c = valid-at c.args.store.now c.requires.0 Pending c.requires.1.lists c.requires.2

pub returns-then-p-eq0-clause-taken : goal.returns-then-p-eq0-clause-taken
returns-then-p-eq0-clause-taken g c = λ l k residents.
    none-waits c.args.store.now (g.Q.KindKeeper.tells c.args.kinds.now) (g.Q.KindKeeper.room c.args.kinds.now) l k residents (sym c.first-p.ensures ∙ c.if-p-eq0.true)

pub returns-then-p-eq0-clause-notes : goal.returns-then-p-eq0-clause-notes
returns-then-p-eq0-clause-notes g c = λ l k residents.
    none-noted c.args.store.now (g.Q.KindKeeper.tells c.args.kinds.now) (g.Q.KindKeeper.room c.args.kinds.now) l k residents (sym c.first-p.ensures ∙ c.if-p-eq0.true) (g.L.EventLog.noted c.args.log.now) (g.L.EventLog.has_failed c.args.log.now)

pub unqueue-requires-clause-queue : goal.unqueue-requires-clause-queue
unqueue-requires-clause-queue g c =
    read-queue c.args.store.now (g.Q.KindKeeper.tells c.args.kinds.now) (g.Q.KindKeeper.room c.args.kinds.now) c.requires.0 c.requires.1 c.requires.2 c.first-p.result c.first-p.ensures c.if-p-eq0.false

pub unqueue-requires-clause-packet : goal.unqueue-requires-clause-packet
unqueue-requires-clause-packet g c =
    read-packet c.args.store.now (g.Q.KindKeeper.tells c.args.kinds.now) (g.Q.KindKeeper.room c.args.kinds.now) c.requires.0 c.requires.1 c.requires.2 c.first-p.result c.first-p.ensures c.if-p-eq0.false

pub returns-clause-taken : goal.returns-clause-taken
returns-clause-taken g c = λ l k residents.
    subst (λ q. IsReadTaken c.args.store.now c.unqueue.new.store (g.Q.KindKeeper.tells c.release.new.self) l (Some q)) (sym c.request_at.ensures)
    (read-taken c.args.store.now (g.Q.KindKeeper.tells c.args.kinds.now) (g.Q.KindKeeper.room c.args.kinds.now) l k residents
    c.first-p.result c.first-p.ensures c.if-p-eq0.false c.unqueue.new.store c.unqueue.ensures (g.Q.KindKeeper.tells c.release.new.self) c.release.ensures.tells)

pub returns-clause-notes : goal.returns-clause-notes
returns-clause-notes g c = λ l k residents.
    read-noted c.args.store.now (g.Q.KindKeeper.tells c.args.kinds.now) (g.Q.KindKeeper.room c.args.kinds.now) l k residents
    c.first-p.result c.first-p.ensures c.if-p-eq0.false c.unqueue.new.store c.unqueue.ensures (g.L.EventLog.noted c.args.log.now) (g.L.EventLog.noted c.note.new.self) (g.L.EventLog.has_failed c.args.log.now)
    (g.L.EventLog.has_failed c.note.new.self)
    (subst (λ e. Notes (g.L.EventLog.noted c.args.log.now) (g.L.EventLog.noted c.note.new.self) (g.L.EventLog.has_failed c.args.log.now) (g.L.EventLog.has_failed c.note.new.self) e)
    (c.taken.ensures ∙ (λ i. Taken (signed PENDING) c.first-p.result (signed (c.word_at.ensures i)))) c.note.ensures)
