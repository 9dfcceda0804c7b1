use Rattle.std.proofs.Common.{◌∙◌, set, ap, subst}
use Rattle.word_store.specs.Arithmetic.{signed}
use Rattle.kernel_lists.specs.PacketQueue.Log.{Notes}
use Rattle.kernel_lists.specs.declared.packet_queue.events.KernelEvent.TheVariants.{Taken}
use Rattle.kernel_model.proofs.KernelRecord.NotedInTurn.{notes-one}
use Rattle.kernel_calls.proofs.CallAnswers.RootTold.{running-word}
use Rattle.resident_tasks.proofs.FaultReporter.TakenFaults.{is-taken, sender-is, take-packet, take-queue}
use Rattle.resident_tasks.proofs.fault_reporter.packet.take_packet.Goals as goal

pub unqueue-requires-clause-queue : goal.unqueue-requires-clause-queue
unqueue-requires-clause-queue g c =
    let l = c.requires.0 in
    let h = c.requires.1 in
    take-queue c.args.store.now l h c.requires.2 c.requires.3 c.requires.4 c.root-task.result (c.root-task.ensures ∙ running-word c.args.store.now l h)

pub unqueue-requires-clause-packet : goal.unqueue-requires-clause-packet
unqueue-requires-clause-packet g c =
    let l = c.requires.0 in
    let h = c.requires.1 in
    take-packet c.args.store.now l h c.requires.2 c.requires.3 c.requires.4 c.root-task.result (c.root-task.ensures ∙ running-word c.args.store.now l h)

pub returns-clause-taken : goal.returns-clause-taken
returns-clause-taken g c = λ l h r two f.
    is-taken c.args.store.now l h r two f c.root-task.result (c.root-task.ensures ∙ running-word c.args.store.now l h) c.unqueue.new.store c.set_word_at-2.new.store c.unqueue.ensures
    (c.set_word_at-2.ensures ∙ ap (λ z. set z 312 0) c.set_word_at.ensures)

pub returns-clause-notes : goal.returns-clause-notes
returns-clause-notes g c = λ l h r two f.
    notes-one _ _ _ _ _
    (subst (Notes (g.L.EventLog.noted c.args.log.now) (g.L.EventLog.noted c.note.new.self) (g.L.EventLog.has_failed c.args.log.now) (g.L.EventLog.has_failed c.note.new.self))
    (c.taken.ensures ∙ ap (λ w. Taken (signed 2) 310 (signed w)) (c.word_at-sender.ensures ∙ sender-is c.args.store.now l h r two f c.root-task.result (c.root-task.ensures ∙ running-word c.args.store.now l h))) c.note.ensures)
