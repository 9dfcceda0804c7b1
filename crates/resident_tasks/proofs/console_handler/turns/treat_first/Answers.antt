use Rattle.std.proofs.Common.{◌∙◌, sym, subst}
use Rattle.kernel_calls.specs.CallAnswers.Outside.{outside}
use Rattle.resident_tasks.specs.ConsoleHandler.TurnParts.{IsDone}
use Rattle.resident_tasks.proofs.ConsoleHandler.WholeTurn.{finds-keys, key-treated, none-treated, request-treated, takes-request}
use Rattle.resident_tasks.proofs.console_handler.turns.treat_first.Goals as goal

pub first_packet-requires : goal.first_packet-requires
first_packet-requires g c = (let x = c.requires.console.3 in (_, x.lists.lists, x.runs))

pub returns-in_default-clause-treated : goal.returns-in_default-clause-treated
returns-in_default-clause-treated g c = λ b k p x.
    let now = outside c.args.bytes.now (g.L.EventLog.noted c.args.log.now) (g.L.EventLog.has_failed c.args.log.now) in
    subst (IsDone b c.args.store.now (g.Q.KindKeeper.tells c.args.kinds.now) (g.Q.KindKeeper.room c.args.kinds.now) now c.args.state.now k)
    (sym (none-treated c.args.awaited p (sym c.in_default.is ∙ c.first_packet.ensures p.lists x.lists.lists x.runs))) x

pub take_key-requires-clause-first : goal.take_key-requires-clause-first
take_key-requires-clause-first g c =
    let now = outside c.args.bytes.now (g.L.EventLog.noted c.args.log.now) (g.L.EventLog.has_failed c.args.log.now) in
    let p = c.requires.console.2 in
    let x = c.requires.console.3 in (
      c.requires.console.0,
      c.requires.console.1,
      p,
      x,
      finds-keys c.requires.console.0 c.args.store.now (g.Q.KindKeeper.tells c.args.kinds.now) (g.Q.KindKeeper.room c.args.kinds.now) now c.args.state.now c.requires.console.1 p x c.in-Some.p
          (sym c.in-Some.is ∙ c.first_packet.ensures p.lists x.lists.lists x.runs) c.if-p-eq-KEY_PACKET.true,
    )

pub returns-then-p-eq-KEY_PACKET-clause-treated : goal.returns-then-p-eq-KEY_PACKET-clause-treated
returns-then-p-eq-KEY_PACKET-clause-treated g c = λ b k p x.
    let now = outside c.args.bytes.now (g.L.EventLog.noted c.args.log.now) (g.L.EventLog.has_failed c.args.log.now) in
    let after = outside c.take_key.new.bytes (g.L.EventLog.noted c.take_key.new.log) (g.L.EventLog.has_failed c.take_key.new.log) in
    let first = sym c.in-Some.is ∙ c.first_packet.ensures p.lists x.lists.lists x.runs in
    subst (IsDone b c.take_key.new.store (g.Q.KindKeeper.tells c.args.kinds.now) (g.Q.KindKeeper.room c.args.kinds.now) after c.take_key.new.state k)
    (key-treated b c.args.store.now (g.Q.KindKeeper.tells c.args.kinds.now) (g.Q.KindKeeper.room c.args.kinds.now) now c.args.state.now k p x c.in-Some.p first c.if-p-eq-KEY_PACKET.true c.args.awaited)
    (c.take_key.ensures b k p x
    (finds-keys b c.args.store.now (g.Q.KindKeeper.tells c.args.kinds.now) (g.Q.KindKeeper.room c.args.kinds.now) now c.args.state.now k p x c.in-Some.p first c.if-p-eq-KEY_PACKET.true))

pub take_first-requires-clause-first : goal.take_first-requires-clause-first
take_first-requires-clause-first g c =
    let now = outside c.args.bytes.now (g.L.EventLog.noted c.args.log.now) (g.L.EventLog.has_failed c.args.log.now) in
    let p = c.requires.console.2 in
    let x = c.requires.console.3 in (
      c.requires.console.0,
      c.args.state.now,
      c.requires.console.1,
      p,
      x,
      takes-request c.requires.console.0 c.args.store.now (g.Q.KindKeeper.tells c.args.kinds.now) (g.Q.KindKeeper.room c.args.kinds.now) now c.args.state.now c.requires.console.1 p x c.in-Some.p
          (sym c.in-Some.is ∙ c.first_packet.ensures p.lists x.lists.lists x.runs) c.if-p-eq-KEY_PACKET.false,
    )

pub returns-clause-treated : goal.returns-clause-treated
returns-clause-treated g c = λ b k p x.
    let now = outside c.args.bytes.now (g.L.EventLog.noted c.args.log.now) (g.L.EventLog.has_failed c.args.log.now) in
    let after = outside c.take_first.new.bytes (g.L.EventLog.noted c.take_first.new.log) (g.L.EventLog.has_failed c.take_first.new.log) in
    let first = sym c.in-Some.is ∙ c.first_packet.ensures p.lists x.lists.lists x.runs in
    subst (IsDone b c.take_first.new.store (g.Q.KindKeeper.tells c.take_first.new.kinds) (g.Q.KindKeeper.room c.take_first.new.kinds) after c.args.state.now k)
    (request-treated b c.args.store.now (g.Q.KindKeeper.tells c.args.kinds.now) (g.Q.KindKeeper.room c.args.kinds.now) now c.args.state.now k p x c.in-Some.p first c.if-p-eq-KEY_PACKET.false c.args.awaited)
    (c.take_first.ensures.done b c.args.state.now k p x
    (takes-request b c.args.store.now (g.Q.KindKeeper.tells c.args.kinds.now) (g.Q.KindKeeper.room c.args.kinds.now) now c.args.state.now k p x c.in-Some.p first c.if-p-eq-KEY_PACKET.false))
