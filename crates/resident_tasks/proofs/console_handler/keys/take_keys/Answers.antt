use Rattle.std.proofs.Common.{◌∙◌, subst}
use Rattle.kernel_lists.specs.PacketQueue.Log.{Notes}
use Rattle.kernel_calls.proofs.CallAnswers.RootTold.{running-word}
use Rattle.resident_tasks.proofs.ConsoleHandler.TakenKeys.{keys-noted, keys-owners, keys-packet, keys-queue, keys-runs, keys-taken}
use Rattle.resident_tasks.proofs.console_handler.keys.take_keys.Goals as goal

pub unqueue-requires-clause-queue : goal.unqueue-requires-clause-queue
unqueue-requires-clause-queue g c =
    keys-queue c.args.store.now c.requires.0 c.requires.1 c.requires.2 c.root-task.result (c.root-task.ensures ∙ running-word c.args.store.now c.requires.0 c.requires.1)

pub unqueue-requires-clause-packet : goal.unqueue-requires-clause-packet
unqueue-requires-clause-packet g c =
    keys-packet c.args.store.now c.requires.0 c.requires.1 c.requires.2 c.root-task.result (c.root-task.ensures ∙ running-word c.args.store.now c.requires.0 c.requires.1)

pub returns-clause-taken : goal.returns-clause-taken
returns-clause-taken g c = λ l h f.
    keys-taken c.args.store.now l h f c.root-task.result (c.root-task.ensures ∙ running-word c.args.store.now l h) c.unqueue.new.store c.unqueue.ensures c.word_at-2.result c.word_at-2.ensures

pub returns-clause-notes : goal.returns-clause-notes
returns-clause-notes g c = λ l h f.
    keys-noted c.args.store.now l h f c.root-task.result (c.root-task.ensures ∙ running-word c.args.store.now l h) c.unqueue.new.store c.unqueue.ensures
    c.field-id.result c.word_at.result c.field-id.ensures c.word_at.ensures (g.L.EventLog.noted c.args.log.now) (g.L.EventLog.noted c.note.new.self) (g.L.EventLog.has_failed c.args.log.now) (g.L.EventLog.has_failed c.note.new.self)
    (subst (λ e. Notes (g.L.EventLog.noted c.args.log.now) (g.L.EventLog.noted c.note.new.self) (g.L.EventLog.has_failed c.args.log.now) (g.L.EventLog.has_failed c.note.new.self) e) c.taken.ensures c.note.ensures)

pub returns-clause-same : goal.returns-clause-same
returns-clause-same g c = λ l a h f. keys-owners c.args.store.now l h f c.root-task.result (c.root-task.ensures ∙ running-word c.args.store.now l h) a

pub returns-clause-runs : goal.returns-clause-runs
returns-clause-runs g c = λ l h f. keys-runs c.args.store.now l h f c.root-task.result (c.root-task.ensures ∙ running-word c.args.store.now l h)
