use Rattle.std.proofs.Common.{◌≡◌, ◌∙◌, sym, ap, subst}
use Rattle.std.proofs.Math.Facts.{to_z-of_z}
use Rattle.word_store.specs.Arithmetic.{signed, word_of}
use Rattle.kernel_lists.specs.PacketQueue.Log.{Notes}
use Rattle.kernel_lists.specs.PacketQueue.Queue.{CanQueue, HasQueue}
use Rattle.kernel_lists.specs.declared.packet_queue.events.KernelEvent.TheVariants.{Accepted}
use Rattle.kernel_model.specs.KernelRecord.Task.{queue_head}
use Rattle.kernel_calls.proofs.CallAnswers.FoundTask.{reads}
use Rattle.kernel_calls.specs.PacketCalls.QueueWords.{enqueued, with_results}
use Rattle.kernel_calls.specs.declared.packet_calls.queues.Queue.TheVariants.{Work}
use Rattle.kernel_calls.proofs.PacketCalls.ReplyCall.{is-noted, is-returned, reply-nobody, reply-packet, reply-queue}
use Rattle.kernel_calls.proofs.packet_calls.replies.reply.Goals as goal

pub find-requires : goal.find-requires
find-requires g c = (reads c.args.store.now c.requires.0 c.requires.1).tasks.tasks

pub returns-in_default-clause-made : goal.returns-in_default-clause-made
returns-in_default-clause-made g c = λ l h r.
    absurd (reply-nobody c.args.store.now l c.args.p _ c.args.res1 c.args.res2 h r c.word_at-sender.result c.word_at-sender.ensures (sym c.find.ensures ∙ c.in_default.is))

pub returns-in_default-clause-notes : goal.returns-in_default-clause-notes
returns-in_default-clause-notes g c = λ l h r.
    absurd (reply-nobody c.args.store.now l c.args.p _ c.args.res1 c.args.res2 h r c.word_at-sender.result c.word_at-sender.ensures (sym c.find.ensures ∙ c.in_default.is))

pub give_back-requires-clause-queue : goal.give_back-requires-clause-queue
give_back-requires-clause-queue g c =
    subst (λ n. HasQueue (with_results c.args.store.now c.args.p n c.args.res1 c.args.res2) (queue_head c.in-Some.task)) (sym (c.number_word-from.ensures ∙ ap word_of (to_z-of_z c.ranges.from)))
    (reply-queue c.args.store.now c.requires.0 c.args.p _ c.args.res1 c.args.res2 c.requires.1 c.requires.2 c.word_at-sender.result c.word_at-sender.ensures c.in-Some.task (sym c.find.ensures ∙ c.in-Some.is))

pub give_back-requires-clause-packet : goal.give_back-requires-clause-packet
give_back-requires-clause-packet g c =
    subst (λ n. CanQueue (with_results c.args.store.now c.args.p n c.args.res1 c.args.res2) (queue_head c.in-Some.task) c.args.p) (sym (c.number_word-from.ensures ∙ ap word_of (to_z-of_z c.ranges.from)))
    (reply-packet c.args.store.now c.requires.0 c.args.p _ c.args.res1 c.args.res2 c.requires.1 c.requires.2 c.word_at-sender.result c.word_at-sender.ensures c.in-Some.task (sym c.find.ensures ∙ c.in-Some.is))

pub returns-clause-made : goal.returns-clause-made
returns-clause-made g c = λ l h r.
    is-returned c.args.store.now l c.args.p _ c.args.res1 c.args.res2 h r c.word_at-sender.result c.word_at-sender.ensures c.in-Some.task (sym c.find.ensures ∙ c.in-Some.is) c.give_back.new.store
    (subst (λ n. c.give_back.new.store ≡ enqueued (with_results c.args.store.now c.args.p n c.args.res1 c.args.res2) (Work c.in-Some.task) c.args.p 0) (c.number_word-from.ensures ∙ ap word_of (to_z-of_z c.ranges.from)) c.give_back.ensures)

pub returns-clause-notes : goal.returns-clause-notes
returns-clause-notes g c = λ l h r.
    is-noted c.args.store.now l c.args.p _ c.args.res1 c.args.res2 h r c.word_at-sender.result c.word_at-sender.ensures (g.L.EventLog.noted c.args.log.now) (g.L.EventLog.noted c.note.new.self)
    (g.L.EventLog.has_failed c.args.log.now) (g.L.EventLog.has_failed c.note.new.self)
    (subst (λ e. Notes (g.L.EventLog.noted c.args.log.now) (g.L.EventLog.noted c.note.new.self) (g.L.EventLog.has_failed c.args.log.now) (g.L.EventLog.has_failed c.note.new.self) e)
    (c.accepted.ensures ∙ (λ i. Accepted (signed c.word_at-sender.result) c.args.p (signed ((c.number_word-from.ensures ∙ ap word_of (to_z-of_z c.ranges.from)) i)))) c.note.ensures)
