use Rattle.kernel_calls.specs.CallAnswers.Outside.{outside}
use Rattle.resident_tasks.proofs.ConsoleHandler.DoneParts.{done-ended, done-none}
use Rattle.resident_tasks.proofs.console_handler.turns.console_turn.Goals as goal

pub treat_first-requires-clause-console : goal.treat_first-requires-clause-console
treat_first-requires-clause-console g c =
    let l = c.requires.console.0 in
    let k = c.requires.console.1 in
    let r = c.requires.console.2 in
    let now = outside c.args.bytes.now (g.L.EventLog.noted c.args.log.now) (g.L.EventLog.has_failed c.args.log.now) in (
      _,
      c.args.shell_line.now.items,
      _,
      done-none c.args.store.now l now (g.Q.KindKeeper.tells c.args.kinds.now) (g.Q.KindKeeper.room c.args.kinds.now) c.args.state.now c.args.shell_line.now.items k r.runs r.is,
    )

pub deliver-requires : goal.deliver-requires
deliver-requires g c =
    let l = c.requires.console.0 in
    let k = c.requires.console.1 in
    let r = c.requires.console.2 in
    let now = outside c.args.bytes.now (g.L.EventLog.noted c.args.log.now) (g.L.EventLog.has_failed c.args.log.now) in
    let x0 = done-none c.args.store.now l now (g.Q.KindKeeper.tells c.args.kinds.now) (g.Q.KindKeeper.room c.args.kinds.now) c.args.state.now c.args.shell_line.now.items k r.runs r.is in
    (_, _, _, c.treat_first.ensures.treated _ _ _ x0)

pub send_free_keys-requires : goal.send_free_keys-requires
send_free_keys-requires g c =
    let l = c.requires.console.0 in
    let k = c.requires.console.1 in
    let r = c.requires.console.2 in
    let now = outside c.args.bytes.now (g.L.EventLog.noted c.args.log.now) (g.L.EventLog.has_failed c.args.log.now) in
    let x0 = done-none c.args.store.now l now (g.Q.KindKeeper.tells c.args.kinds.now) (g.Q.KindKeeper.room c.args.kinds.now) c.args.state.now c.args.shell_line.now.items k r.runs r.is in
    (_, _, _, _, c.deliver.ensures.done _ c.treat_first.new.bytes _ (c.treat_first.ensures.treated _ _ _ x0))

pub finish_turn-requires : goal.finish_turn-requires
finish_turn-requires g c =
    let l = c.requires.console.0 in
    let k = c.requires.console.1 in
    let r = c.requires.console.2 in
    let now = outside c.args.bytes.now (g.L.EventLog.noted c.args.log.now) (g.L.EventLog.has_failed c.args.log.now) in
    let x0 = done-none c.args.store.now l now (g.Q.KindKeeper.tells c.args.kinds.now) (g.Q.KindKeeper.room c.args.kinds.now) c.args.state.now c.args.shell_line.now.items k r.runs r.is in
    let x = c.send_free_keys.ensures.done _ c.treat_first.new.bytes _ _ (c.deliver.ensures.done _ c.treat_first.new.bytes _ (c.treat_first.ensures.treated _ _ _ x0)) in
    (_, x.lists.lists, x.runs)

pub returns-clause-turn : goal.returns-clause-turn
returns-clause-turn g c = λ l k r.
    let now = outside c.args.bytes.now (g.L.EventLog.noted c.args.log.now) (g.L.EventLog.has_failed c.args.log.now) in
    let x0 = done-none c.args.store.now l now (g.Q.KindKeeper.tells c.args.kinds.now) (g.Q.KindKeeper.room c.args.kinds.now) c.args.state.now c.args.shell_line.now.items k r.runs r.is in
    let x = c.send_free_keys.ensures.done _ c.treat_first.new.bytes _ _ (c.deliver.ensures.done _ c.treat_first.new.bytes _ (c.treat_first.ensures.treated _ _ _ x0)) in
    done-ended _ _ _ _ _ _ _ _ x c.finish_turn.new.store (c.finish_turn.ensures _ x.lists.lists x.runs)

pub returns-clause-line : goal.returns-clause-line
returns-clause-line g c = λ l k r.
    let now = outside c.args.bytes.now (g.L.EventLog.noted c.args.log.now) (g.L.EventLog.has_failed c.args.log.now) in
    let x0 = done-none c.args.store.now l now (g.Q.KindKeeper.tells c.args.kinds.now) (g.Q.KindKeeper.room c.args.kinds.now) c.args.state.now c.args.shell_line.now.items k r.runs r.is in
    let x = c.send_free_keys.ensures.done _ c.treat_first.new.bytes _ _ (c.deliver.ensures.done _ c.treat_first.new.bytes _ (c.treat_first.ensures.treated _ _ _ x0)) in
    x.line

pub returns-clause-shell : goal.returns-clause-shell
returns-clause-shell g c = λ l k r.
    let now = outside c.args.bytes.now (g.L.EventLog.noted c.args.log.now) (g.L.EventLog.has_failed c.args.log.now) in
    let x0 = done-none c.args.store.now l now (g.Q.KindKeeper.tells c.args.kinds.now) (g.Q.KindKeeper.room c.args.kinds.now) c.args.state.now c.args.shell_line.now.items k r.runs r.is in
    let x = c.send_free_keys.ensures.done _ c.treat_first.new.bytes _ _ (c.deliver.ensures.done _ c.treat_first.new.bytes _ (c.treat_first.ensures.treated _ _ _ x0)) in
    x.shell
