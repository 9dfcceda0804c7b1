use Rattle.std.proofs.Common.{◌∙◌, sym}
use Rattle.kernel_calls.specs.CallAnswers.Outside.{outside}
use Rattle.shell.proofs.WholeTurn.{done-begun, done-cleared, done-ends, idle-turn, turn-ended, turn-finished, turn-is, whole-turn}
use Rattle.shell.proofs.turns.shell_turn.Goals as goal

pub returns-in_default-clause-turn : goal.returns-in_default-clause-turn
returns-in_default-clause-turn g c = λ l k r.
    let begins = done-begun c.args.store.now (g.Q.KindKeeper.tells c.args.kinds.now) (g.Q.KindKeeper.room c.args.kinds.now) (outside c.args.bytes.now (g.L.EventLog.noted c.args.log.now) (g.L.EventLog.has_failed c.args.log.now)) l c.args.state.now c.args.disc.now k r in
    turn-is (turn-ended begins c.finish_turn.new.store (c.finish_turn.ensures l k.lists r.runs)) _
    (idle-turn c.args.store.now l c.args.state.now c.args.disc.now (sym c.in_default.is ∙ c.first_packet.ensures l k.lists r.runs))

pub clear_up-requires : goal.clear_up-requires
clear_up-requires g c = (_, c.requires.shell.1, c.requires.shell.2.runs.field)

pub treat_first-requires-clause-done : goal.treat_first-requires-clause-done
treat_first-requires-clause-done g c =
    let l = c.requires.shell.0 in
    let k = c.requires.shell.1 in
    let r = c.requires.shell.2 in
    let begins = done-begun c.args.store.now (g.Q.KindKeeper.tells c.args.kinds.now) (g.Q.KindKeeper.room c.args.kinds.now) (outside c.args.bytes.now (g.L.EventLog.noted c.args.log.now) (g.L.EventLog.has_failed c.args.log.now)) l c.args.state.now c.args.disc.now k r in
    let cleared = done-cleared begins c.clear_up.new.store (g.Q.KindKeeper.tells c.clear_up.new.kinds) (g.Q.KindKeeper.room c.clear_up.new.kinds) (c.clear_up.ensures.cleared l k r.runs.field) c.clear_up.ensures.room in
    (_, _, cleared)

pub returns-then-treat_first-clause-turn : goal.returns-then-treat_first-clause-turn
returns-then-treat_first-clause-turn g c = λ l k r.
    let begins = done-begun c.args.store.now (g.Q.KindKeeper.tells c.args.kinds.now) (g.Q.KindKeeper.room c.args.kinds.now) (outside c.args.bytes.now (g.L.EventLog.noted c.args.log.now) (g.L.EventLog.has_failed c.args.log.now)) l c.args.state.now c.args.disc.now k r in
    let cleared = done-cleared begins c.clear_up.new.store (g.Q.KindKeeper.tells c.clear_up.new.kinds) (g.Q.KindKeeper.room c.clear_up.new.kinds) (c.clear_up.ensures.cleared l k r.runs.field) c.clear_up.ensures.room in
    let treated = done-ends (c.treat_first.ensures.done _ _ cleared) c.if-treat_first.true in
    turn-is (turn-finished treated) _ (whole-turn c.args.store.now l c.args.state.now c.args.disc.now _ (sym c.in-Some.is ∙ c.first_packet.ensures l k.lists r.runs))

pub returns-then-treat_first-clause-room : goal.returns-then-treat_first-clause-room
returns-then-treat_first-clause-room g c =
    let l = c.requires.shell.0 in
    let k = c.requires.shell.1 in
    let r = c.requires.shell.2 in
    let begins = done-begun c.args.store.now (g.Q.KindKeeper.tells c.args.kinds.now) (g.Q.KindKeeper.room c.args.kinds.now) (outside c.args.bytes.now (g.L.EventLog.noted c.args.log.now) (g.L.EventLog.has_failed c.args.log.now)) l c.args.state.now c.args.disc.now k r in
    let cleared = done-cleared begins c.clear_up.new.store (g.Q.KindKeeper.tells c.clear_up.new.kinds) (g.Q.KindKeeper.room c.clear_up.new.kinds) (c.clear_up.ensures.cleared l k r.runs.field) c.clear_up.ensures.room in
    (c.treat_first.ensures.done _ _ cleared).room

pub finish_turn-requires-2 : goal.finish_turn-requires-2
finish_turn-requires-2 g c =
    let l = c.requires.shell.0 in
    let k = c.requires.shell.1 in
    let r = c.requires.shell.2 in
    let begins = done-begun c.args.store.now (g.Q.KindKeeper.tells c.args.kinds.now) (g.Q.KindKeeper.room c.args.kinds.now) (outside c.args.bytes.now (g.L.EventLog.noted c.args.log.now) (g.L.EventLog.has_failed c.args.log.now)) l c.args.state.now c.args.disc.now k r in
    let cleared = done-cleared begins c.clear_up.new.store (g.Q.KindKeeper.tells c.clear_up.new.kinds) (g.Q.KindKeeper.room c.clear_up.new.kinds) (c.clear_up.ensures.cleared l k r.runs.field) c.clear_up.ensures.room in
    let treated = c.treat_first.ensures.done _ _ cleared in
    (_, treated.represents.keeper.lists, treated.runs)

pub returns-clause-turn : goal.returns-clause-turn
returns-clause-turn g c = λ l k r.
    let begins = done-begun c.args.store.now (g.Q.KindKeeper.tells c.args.kinds.now) (g.Q.KindKeeper.room c.args.kinds.now) (outside c.args.bytes.now (g.L.EventLog.noted c.args.log.now) (g.L.EventLog.has_failed c.args.log.now)) l c.args.state.now c.args.disc.now k r in
    let cleared = done-cleared begins c.clear_up.new.store (g.Q.KindKeeper.tells c.clear_up.new.kinds) (g.Q.KindKeeper.room c.clear_up.new.kinds) (c.clear_up.ensures.cleared l k r.runs.field) c.clear_up.ensures.room in
    let treated = done-ends (c.treat_first.ensures.done _ _ cleared) c.if-treat_first.false in
    turn-is (turn-ended treated c.finish_turn-2.new.store (c.finish_turn-2.ensures _ treated.represents.keeper.lists treated.runs)) _ (whole-turn c.args.store.now l c.args.state.now c.args.disc.now _ (sym c.in-Some.is ∙ c.first_packet.ensures l k.lists r.runs))

pub returns-clause-room : goal.returns-clause-room
returns-clause-room g c =
    let l = c.requires.shell.0 in
    let k = c.requires.shell.1 in
    let r = c.requires.shell.2 in
    let begins = done-begun c.args.store.now (g.Q.KindKeeper.tells c.args.kinds.now) (g.Q.KindKeeper.room c.args.kinds.now) (outside c.args.bytes.now (g.L.EventLog.noted c.args.log.now) (g.L.EventLog.has_failed c.args.log.now)) l c.args.state.now c.args.disc.now k r in
    let cleared = done-cleared begins c.clear_up.new.store (g.Q.KindKeeper.tells c.clear_up.new.kinds) (g.Q.KindKeeper.room c.clear_up.new.kinds) (c.clear_up.ensures.cleared l k r.runs.field) c.clear_up.ensures.room in
    (c.treat_first.ensures.done _ _ cleared).room
