use Rattle.std.proofs.Common.{subst}
use Rattle.kernel_lists.specs.PacketQueue.Log.{Notes}
use Rattle.kernel_model.proofs.KernelRecord.NotedInTurn.{notes-one}
use Rattle.resident_tasks.proofs.ConsoleHandler.WaitingReads.{come-made, come-owns, come-packet, come-queue, come-room}
use Rattle.resident_tasks.proofs.console_handler.reads.put_off.Goals as goal

pub send-requires-clause-queue : goal.send-requires-clause-queue
send-requires-clause-queue g c =
    come-queue c.args.store.now (g.Q.KindKeeper.tells c.args.kinds.now) (g.Q.KindKeeper.room c.args.kinds.now) c.requires.0 c.requires.1 c.requires.3 c.args.request c.requires.2

pub send-requires-clause-packet : goal.send-requires-clause-packet
send-requires-clause-packet g c =
    come-packet c.args.store.now (g.Q.KindKeeper.tells c.args.kinds.now) (g.Q.KindKeeper.room c.args.kinds.now) c.requires.0 c.requires.1 c.requires.3 c.args.request c.requires.2

pub claim-requires : goal.claim-requires
claim-requires g c =
    come-room c.args.store.now (g.Q.KindKeeper.tells c.args.kinds.now) (g.Q.KindKeeper.room c.args.kinds.now) c.requires.0 c.requires.1 c.requires.3 c.args.request c.requires.2

pub returns-clause-made : goal.returns-clause-made
returns-clause-made g c = λ l k h residents.
    come-made c.args.store.now (g.Q.KindKeeper.tells c.args.kinds.now) (g.Q.KindKeeper.room c.args.kinds.now) l k residents c.args.request h c.send.new.store (g.Q.KindKeeper.tells c.claim.new.self) c.send.ensures c.claim.ensures.tells

pub returns-clause-notes : goal.returns-clause-notes
returns-clause-notes g c = λ l k h residents.
    notes-one (g.L.EventLog.noted c.args.log.now) (g.L.EventLog.noted c.note.new.self) (g.L.EventLog.has_failed c.args.log.now) (g.L.EventLog.has_failed c.note.new.self) _
    (subst (λ e. Notes (g.L.EventLog.noted c.args.log.now) (g.L.EventLog.noted c.note.new.self) (g.L.EventLog.has_failed c.args.log.now) (g.L.EventLog.has_failed c.note.new.self) e) c.accepted.ensures c.note.ensures)

pub returns-clause-owns : goal.returns-clause-owns
returns-clause-owns g c = λ l k h residents.
    come-owns c.args.store.now (g.Q.KindKeeper.tells c.args.kinds.now) (g.Q.KindKeeper.room c.args.kinds.now) l k residents c.args.request h
