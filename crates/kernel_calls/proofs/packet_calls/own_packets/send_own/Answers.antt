use Rattle.std.proofs.Common.{◌∙◌, sym, ap, subst}
use Rattle.std.proofs.Math.Facts.{to_z-of_z}
use Rattle.word_store.specs.Arithmetic.{signed, word_of}
use Rattle.kernel_lists.specs.PacketQueue.Log.{Notes}
use Rattle.kernel_lists.specs.declared.packet_queue.events.KernelEvent.TheVariants.{Accepted}
use Rattle.kernel_calls.specs.PacketCalls.Destinations.{destination_of}
use Rattle.kernel_calls.proofs.PacketCalls.OwnPackets.{keys-sent, own-noted, own-nowhere, own-packet, own-queue, own-room, task-sent}
use Rattle.kernel_calls.proofs.packet_calls.own_packets.send_own.Goals as goal

pub returns-in_default-clause-made : goal.returns-in_default-clause-made
returns-in_default-clause-made g c = λ l k r.
    absurd (own-nowhere c.args.store.now (g.Q.KindKeeper.tells c.args.kinds.now) (g.Q.KindKeeper.room c.args.kinds.now) l c.args.p c.args.from (word_of c.args.to) k r c.destination.result
    (c.destination.ensures l k.lists ∙ ap (destination_of l) (c.number_word-number.ensures ∙ ap word_of (to_z-of_z c.ranges.to))) c.in_default.is)

pub returns-in_default-clause-notes : goal.returns-in_default-clause-notes
returns-in_default-clause-notes g c = λ l k r.
    absurd (own-nowhere c.args.store.now (g.Q.KindKeeper.tells c.args.kinds.now) (g.Q.KindKeeper.room c.args.kinds.now) l c.args.p c.args.from (word_of c.args.to) k r c.destination.result
    (c.destination.ensures l k.lists ∙ ap (destination_of l) (c.number_word-number.ensures ∙ ap word_of (to_z-of_z c.ranges.to))) c.in_default.is)

pub send-requires-clause-queue : goal.send-requires-clause-queue
send-requires-clause-queue g c =
    let l = c.requires.0 in
    let k = c.requires.1 in
    own-queue c.args.store.now (g.Q.KindKeeper.tells c.args.kinds.now) (g.Q.KindKeeper.room c.args.kinds.now) l c.args.p c.args.from (word_of c.args.to) k c.requires.2 c.in-Some.queue
    (sym (c.destination.ensures l k.lists ∙ ap (destination_of l) (c.number_word-number.ensures ∙ ap word_of (to_z-of_z c.ranges.to))) ∙ c.in-Some.is)

pub send-requires-clause-packet : goal.send-requires-clause-packet
send-requires-clause-packet g c =
    let l = c.requires.0 in
    let k = c.requires.1 in
    own-packet c.args.store.now (g.Q.KindKeeper.tells c.args.kinds.now) (g.Q.KindKeeper.room c.args.kinds.now) l c.args.p c.args.from (word_of c.args.to) k c.requires.2 c.in-Some.queue
    (sym (c.destination.ensures l k.lists ∙ ap (destination_of l) (c.number_word-number.ensures ∙ ap word_of (to_z-of_z c.ranges.to))) ∙ c.in-Some.is)

pub returns-then-number-clause-made : goal.returns-then-number-clause-made
returns-then-number-clause-made g c = λ l k r.
    keys-sent c.args.store.now (g.Q.KindKeeper.tells c.args.kinds.now) (g.Q.KindKeeper.room c.args.kinds.now) l c.args.p c.args.from (word_of c.args.to) k r c.in-Some.queue
    (sym (c.destination.ensures l k.lists ∙ ap (destination_of l) (c.number_word-number.ensures ∙ ap word_of (to_z-of_z c.ranges.to))) ∙ c.in-Some.is) c.send.new.store (sym (c.number_word-number.ensures ∙ ap word_of (to_z-of_z c.ranges.to)) ∙ c.if-number.true) c.send.ensures

pub returns-then-number-clause-notes : goal.returns-then-number-clause-notes
returns-then-number-clause-notes g c = λ l k r.
    own-noted c.args.store.now (g.Q.KindKeeper.tells c.args.kinds.now) (g.Q.KindKeeper.room c.args.kinds.now) l c.args.p c.args.from (word_of c.args.to) k r c.in-Some.queue
    (sym (c.destination.ensures l k.lists ∙ ap (destination_of l) (c.number_word-number.ensures ∙ ap word_of (to_z-of_z c.ranges.to))) ∙ c.in-Some.is) (g.L.EventLog.noted c.args.log.now) (g.L.EventLog.noted c.note.new.self)
    (g.L.EventLog.has_failed c.args.log.now) (g.L.EventLog.has_failed c.note.new.self)
    (subst (λ e. Notes (g.L.EventLog.noted c.args.log.now) (g.L.EventLog.noted c.note.new.self) (g.L.EventLog.has_failed c.args.log.now) (g.L.EventLog.has_failed c.note.new.self) e)
    (c.accepted.ensures ∙ (λ i. Accepted (signed ((c.number_word-number.ensures ∙ ap word_of (to_z-of_z c.ranges.to)) i)) c.args.p (signed c.args.from))) c.note.ensures)

pub claim-requires : goal.claim-requires
claim-requires g c =
    let l = c.requires.0 in
    let k = c.requires.1 in
    own-room c.args.store.now (g.Q.KindKeeper.tells c.args.kinds.now) (g.Q.KindKeeper.room c.args.kinds.now) l c.args.p c.args.from (word_of c.args.to) k c.requires.2
    (λ e. c.if-number.false (c.number_word-number.ensures ∙ ap word_of (to_z-of_z c.ranges.to) ∙ e))

pub returns-clause-made : goal.returns-clause-made
returns-clause-made g c = λ l k r.
    task-sent c.args.store.now (g.Q.KindKeeper.tells c.args.kinds.now) (g.Q.KindKeeper.room c.args.kinds.now) l c.args.p c.args.from (word_of c.args.to) k r c.in-Some.queue
    (sym (c.destination.ensures l k.lists ∙ ap (destination_of l) (c.number_word-number.ensures ∙ ap word_of (to_z-of_z c.ranges.to))) ∙ c.in-Some.is) c.send.new.store (g.Q.KindKeeper.tells c.claim.new.self)
    (λ e. c.if-number.false (c.number_word-number.ensures ∙ ap word_of (to_z-of_z c.ranges.to) ∙ e)) c.send.ensures c.claim.ensures.tells

pub returns-clause-notes : goal.returns-clause-notes
returns-clause-notes g c = λ l k r.
    own-noted c.args.store.now (g.Q.KindKeeper.tells c.args.kinds.now) (g.Q.KindKeeper.room c.args.kinds.now) l c.args.p c.args.from (word_of c.args.to) k r c.in-Some.queue
    (sym (c.destination.ensures l k.lists ∙ ap (destination_of l) (c.number_word-number.ensures ∙ ap word_of (to_z-of_z c.ranges.to))) ∙ c.in-Some.is) (g.L.EventLog.noted c.args.log.now) (g.L.EventLog.noted c.note.new.self)
    (g.L.EventLog.has_failed c.args.log.now) (g.L.EventLog.has_failed c.note.new.self)
    (subst (λ e. Notes (g.L.EventLog.noted c.args.log.now) (g.L.EventLog.noted c.note.new.self) (g.L.EventLog.has_failed c.args.log.now) (g.L.EventLog.has_failed c.note.new.self) e)
    (c.accepted.ensures ∙ (λ i. Accepted (signed ((c.number_word-number.ensures ∙ ap word_of (to_z-of_z c.ranges.to)) i)) c.args.p (signed c.args.from))) c.note.ensures)
