use Rattle.kernel_calls.specs.CallAnswers.Outside.{outside}
use Rattle.resident_tasks.proofs.ConsoleHandler.DoneParts.{done-keeper}
use Rattle.resident_tasks.proofs.ConsoleHandler.SentKeys.{can-send, send-done}
use Rattle.resident_tasks.proofs.console_handler.keys.send_keys.Goals as goal

pub send_own-requires : goal.send_own-requires
send_own-requires g c =
    let now = outside c.requires.1 (g.L.EventLog.noted c.args.log.now) (g.L.EventLog.has_failed c.args.log.now) in
    let p = c.requires.4 in (
      p.lists,
      done-keeper c.requires.0 c.args.store.now (g.Q.KindKeeper.tells c.args.kinds.now) (g.Q.KindKeeper.room c.args.kinds.now) now c.requires.2 c.requires.3 p c.requires.5,
      can-send p.lists c.requires.6,
    )

pub returns-clause-done : goal.returns-clause-done
returns-clause-done g c = λ b shown console k p x off.
    let now = outside shown (g.L.EventLog.noted c.args.log.now) (g.L.EventLog.has_failed c.args.log.now) in
    let keeper = done-keeper b c.args.store.now (g.Q.KindKeeper.tells c.args.kinds.now) (g.Q.KindKeeper.room c.args.kinds.now) now console k p x in
    send-done b c.args.store.now (g.Q.KindKeeper.tells c.args.kinds.now) (g.Q.KindKeeper.room c.args.kinds.now) now console k p x off c.send_own.new.store (g.Q.KindKeeper.tells c.send_own.new.kinds)
    (g.Q.KindKeeper.room c.send_own.new.kinds) (g.L.EventLog.noted c.send_own.new.log) (g.L.EventLog.has_failed c.send_own.new.log) c.send_own.ensures.room
    (c.send_own.ensures.made p.lists keeper (can-send p.lists off)) (c.send_own.ensures.notes p.lists keeper (can-send p.lists off))
