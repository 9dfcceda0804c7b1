use Rattle.std.proofs.Common.{◌∙◌, sym, subst, arith}
use Rattle.word_store.specs.Arithmetic.{signed}
use Rattle.kernel_lists.specs.PacketQueue.Log.{Notes}
use Rattle.kernel_lists.specs.declared.packet_queue.events.KernelEvent.TheVariants.{Taken}
use Rattle.kernel_model.specs.KernelRecord.Lists.{Lists}
use Rattle.kernel_calls.proofs.PacketCalls.CallerTask.{caller-low, caller-runs, caller-state}
use Rattle.kernel_calls.proofs.PacketCalls.WaitCall.{none-first, none-noted, none-waits, some-noted, some-taken, taken-first, wait-packet, wait-queue}
use Rattle.kernel_calls.proofs.packet_calls.wait.taskwait.Goals as goal

pub overflow_add-state : goal.overflow_add-state
overflow_add-state g c =
    let l : Lists = c.requires.0 in
    let caller = c.caller-task.ensures l c.requires.1.lists c.requires.2 in
    omega (arith, c.field-state.ensures, caller-state c.args.store.now l l.running c.caller-task.result c.requires.1.lists caller, caller-low caller.task (caller-runs l c.caller-task.result c.requires.2 caller))

pub returns-then-p-eq0-clause-made : goal.returns-then-p-eq0-clause-made
returns-then-p-eq0-clause-made g c = λ l k r.
    none-waits c.args.store.now (g.Q.KindKeeper.tells c.args.kinds.now) (g.Q.KindKeeper.room c.args.kinds.now) l c.caller-task.result k r (c.caller-task.ensures l k.lists r) c.set_field.new.store
    (sym c.field-p.ensures ∙ c.if-p-eq0.true) cc

pub returns-then-p-eq0-clause-packet : goal.returns-then-p-eq0-clause-packet
returns-then-p-eq0-clause-packet g c = λ l k r.
    none-first c.args.store.now (g.Q.KindKeeper.tells c.args.kinds.now) (g.Q.KindKeeper.room c.args.kinds.now) l c.caller-task.result k r (c.caller-task.ensures l k.lists r)
    (sym c.field-p.ensures ∙ c.if-p-eq0.true)

pub returns-then-p-eq0-clause-notes : goal.returns-then-p-eq0-clause-notes
returns-then-p-eq0-clause-notes g c = λ l k r.
    none-noted c.args.store.now (g.Q.KindKeeper.tells c.args.kinds.now) (g.Q.KindKeeper.room c.args.kinds.now) l c.caller-task.result k r (c.caller-task.ensures l k.lists r)
    (g.L.EventLog.noted c.args.log.now) (g.L.EventLog.has_failed c.args.log.now) (sym c.field-p.ensures ∙ c.if-p-eq0.true)

pub unqueue-requires-clause-queue : goal.unqueue-requires-clause-queue
unqueue-requires-clause-queue g c =
    wait-queue c.args.store.now (g.Q.KindKeeper.tells c.args.kinds.now) (g.Q.KindKeeper.room c.args.kinds.now) c.requires.0 c.caller-task.result c.requires.1 c.requires.2
    (c.caller-task.ensures c.requires.0 c.requires.1.lists c.requires.2) c.field-p.result c.field-p.ensures c.if-p-eq0.false

pub unqueue-requires-clause-packet : goal.unqueue-requires-clause-packet
unqueue-requires-clause-packet g c =
    wait-packet c.args.store.now (g.Q.KindKeeper.tells c.args.kinds.now) (g.Q.KindKeeper.room c.args.kinds.now) c.requires.0 c.caller-task.result c.requires.1 c.requires.2
    (c.caller-task.ensures c.requires.0 c.requires.1.lists c.requires.2) c.field-p.result c.field-p.ensures c.if-p-eq0.false

pub returns-clause-made : goal.returns-clause-made
returns-clause-made g c = λ l k r.
    some-taken c.args.store.now (g.Q.KindKeeper.tells c.args.kinds.now) (g.Q.KindKeeper.room c.args.kinds.now) l c.caller-task.result k r (c.caller-task.ensures l k.lists r)
    c.field-p.result c.field-p.ensures c.if-p-eq0.false c.unqueue.new.store (g.Q.KindKeeper.tells c.release.new.self) c.unqueue.ensures c.release.ensures.tells

pub returns-clause-packet : goal.returns-clause-packet
returns-clause-packet g c = λ l k r.
    taken-first c.args.store.now (g.Q.KindKeeper.tells c.args.kinds.now) (g.Q.KindKeeper.room c.args.kinds.now) l c.caller-task.result k r (c.caller-task.ensures l k.lists r)
    c.field-p.result c.field-p.ensures c.if-p-eq0.false

pub returns-clause-notes : goal.returns-clause-notes
returns-clause-notes g c = λ l k r.
    some-noted c.args.store.now (g.Q.KindKeeper.tells c.args.kinds.now) (g.Q.KindKeeper.room c.args.kinds.now) l c.caller-task.result k r (c.caller-task.ensures l k.lists r)
    c.field-p.result c.field-p.ensures c.if-p-eq0.false c.unqueue.new.store (g.L.EventLog.noted c.args.log.now) (g.L.EventLog.noted c.note.new.self) (g.L.EventLog.has_failed c.args.log.now)
    (g.L.EventLog.has_failed c.note.new.self) c.unqueue.ensures
    (subst (λ e. Notes (g.L.EventLog.noted c.args.log.now) (g.L.EventLog.noted c.note.new.self) (g.L.EventLog.has_failed c.args.log.now) (g.L.EventLog.has_failed c.note.new.self) e)
    (c.taken.ensures ∙ (λ i. Taken (signed (c.field-id.ensures i)) c.field-p.result (signed (c.word_at.ensures i)))) c.note.ensures)
