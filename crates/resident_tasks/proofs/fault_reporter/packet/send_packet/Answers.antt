use Rattle.std.proofs.Common.{◌∙◌, sym, subst}
use Rattle.kernel_lists.specs.PacketQueue.Log.{Notes}
use Rattle.kernel_lists.specs.PacketQueue.Queue.{HasQueue}
use Rattle.kernel_model.specs.KernelRecord.NotedEvents.{NotesAll}
use Rattle.kernel_model.proofs.KernelRecord.NotedInTurn.{notes-none}
use Rattle.kernel_calls.proofs.CallAnswers.FoundTask.{reads}
use Rattle.kernel_calls.proofs.PacketCalls.CallerTask.{caller-number}
use Rattle.kernel_calls.specs.PacketCalls.QueueWords.{head_of}
use Rattle.kernel_calls.proofs.PacketCalls.HeldPlaces.{valid-at}
use Rattle.kernel_model.specs.KernelRecord.ValidQueues.Place.{Work}
use Rattle.resident_tasks.specs.FaultReporter.Recorded.{events_where}
use Rattle.resident_tasks.proofs.FaultReporter.FaultPacket.{not-sent, packet-noted, packet-sent, send-packet, send-queue, reporter-found, reporter-queue, waits-is}
use Rattle.resident_tasks.proofs.fault_reporter.packet.send_packet.Goals as goal

pub find-requires : goal.find-requires
find-requires g c = (reads c.args.store.now c.requires.0 c.requires.1).tasks.tasks

pub returns-in_default-clause-sent : goal.returns-in_default-clause-sent
returns-in_default-clause-sent g c = λ l h k there. absurd (reporter-found c.args.store.now l h there (sym c.find.ensures ∙ c.in_default.is))

pub returns-in_default-clause-notes : goal.returns-in_default-clause-notes
returns-in_default-clause-notes g c = λ l h k there. absurd (reporter-found c.args.store.now l h there (sym c.find.ensures ∙ c.in_default.is))

pub has_packet-requires : goal.has_packet-requires
has_packet-requires g c =
    let l = c.requires.0 in
    let h = c.requires.1 in
    subst (λ q. HasQueue c.args.store.now (head_of q)) (sym (reporter-queue c.args.store.now l c.in-Some.reporter h (sym c.find.ensures ∙ c.in-Some.is))) (valid-at c.args.store.now l (Work 2) h c.requires.3)

pub returns-then-has_packet-clause-sent : goal.returns-then-has_packet-clause-sent
returns-then-has_packet-clause-sent g c = λ l h k there.
    not-sent c.args.store.now l h (waits-is c.args.store.now l _ _ h there (reporter-queue c.args.store.now l c.in-Some.reporter h (sym c.find.ensures ∙ c.in-Some.is)) (sym c.if-has_packet.true ∙ c.has_packet.ensures))

pub returns-then-has_packet-clause-notes : goal.returns-then-has_packet-clause-notes
returns-then-has_packet-clause-notes g c = λ l h k there.
    subst (λ b. NotesAll (g.L.EventLog.noted c.args.log.now) (g.L.EventLog.noted c.args.log.now) (g.L.EventLog.has_failed c.args.log.now) (g.L.EventLog.has_failed c.args.log.now) (events_where b l))
    (sym (waits-is c.args.store.now l _ _ h there (reporter-queue c.args.store.now l c.in-Some.reporter h (sym c.find.ensures ∙ c.in-Some.is)) (sym c.if-has_packet.true ∙ c.has_packet.ensures)))
    (notes-none (g.L.EventLog.noted c.args.log.now) (g.L.EventLog.has_failed c.args.log.now))

pub send-requires-clause-queue : goal.send-requires-clause-queue
send-requires-clause-queue g c =
    let l = c.requires.0 in
    let h = c.requires.1 in
    let k = c.requires.2 in
    let there = c.requires.3 in
    send-queue c.args.store.now l h k there (waits-is c.args.store.now l _ _ h there (reporter-queue c.args.store.now l c.in-Some.reporter h (sym c.find.ensures ∙ c.in-Some.is)) (sym c.if-has_packet.false ∙ c.has_packet.ensures))
    _ (reporter-queue c.args.store.now l c.in-Some.reporter h (sym c.find.ensures ∙ c.in-Some.is)) c.set_word_at.new.store c.field-sender.result c.set_word_at.ensures
    (c.field-sender.ensures ∙ caller-number c.args.store.now l l.running c.caller.result h (c.caller.ensures l h k))

pub send-requires-clause-packet : goal.send-requires-clause-packet
send-requires-clause-packet g c =
    let l = c.requires.0 in
    let h = c.requires.1 in
    let k = c.requires.2 in
    let there = c.requires.3 in
    send-packet c.args.store.now l h k there (waits-is c.args.store.now l _ _ h there (reporter-queue c.args.store.now l c.in-Some.reporter h (sym c.find.ensures ∙ c.in-Some.is)) (sym c.if-has_packet.false ∙ c.has_packet.ensures))
    _ (reporter-queue c.args.store.now l c.in-Some.reporter h (sym c.find.ensures ∙ c.in-Some.is)) c.set_word_at.new.store c.field-sender.result c.set_word_at.ensures
    (c.field-sender.ensures ∙ caller-number c.args.store.now l l.running c.caller.result h (c.caller.ensures l h k))

pub returns-clause-sent : goal.returns-clause-sent
returns-clause-sent g c = λ l h k there.
    packet-sent c.args.store.now l h k there (waits-is c.args.store.now l _ _ h there (reporter-queue c.args.store.now l c.in-Some.reporter h (sym c.find.ensures ∙ c.in-Some.is)) (sym c.if-has_packet.false ∙ c.has_packet.ensures))
    _ (reporter-queue c.args.store.now l c.in-Some.reporter h (sym c.find.ensures ∙ c.in-Some.is)) c.set_word_at.new.store c.field-sender.result c.set_word_at.ensures
    (c.field-sender.ensures ∙ caller-number c.args.store.now l l.running c.caller.result h (c.caller.ensures l h k)) c.send.new.store c.send.ensures

pub returns-clause-notes : goal.returns-clause-notes
returns-clause-notes g c = λ l h k there.
    packet-noted c.args.store.now l h k there (waits-is c.args.store.now l _ _ h there (reporter-queue c.args.store.now l c.in-Some.reporter h (sym c.find.ensures ∙ c.in-Some.is)) (sym c.if-has_packet.false ∙ c.has_packet.ensures))
    _ (reporter-queue c.args.store.now l c.in-Some.reporter h (sym c.find.ensures ∙ c.in-Some.is)) c.set_word_at.new.store c.field-sender.result c.set_word_at.ensures
    (c.field-sender.ensures ∙ caller-number c.args.store.now l l.running c.caller.result h (c.caller.ensures l h k)) (g.L.EventLog.noted c.args.log.now) (g.L.EventLog.noted c.note.new.self) (g.L.EventLog.has_failed c.args.log.now) (g.L.EventLog.has_failed c.note.new.self)
    (subst (Notes (g.L.EventLog.noted c.args.log.now) (g.L.EventLog.noted c.note.new.self) (g.L.EventLog.has_failed c.args.log.now) (g.L.EventLog.has_failed c.note.new.self)) c.accepted.ensures c.note.ensures)
