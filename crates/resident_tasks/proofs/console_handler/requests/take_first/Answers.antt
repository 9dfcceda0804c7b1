use Rattle.std.proofs.Common.{subst}
use Rattle.kernel_calls.specs.CallAnswers.Outside.{outside}
use Rattle.resident_tasks.specs.ResidentRequests.Requests.{IsTaken, taken}
use Rattle.resident_tasks.proofs.ConsoleHandler.DoneParts.{done-keeper}
use Rattle.resident_tasks.proofs.ConsoleHandler.TreatedRequests.{answer-done, none-done, read-done, request-keeper, request-number, request-residents}
use Rattle.resident_tasks.proofs.console_handler.requests.take_first.Goals as goal

pub returns-in_default-clause-done : goal.returns-in_default-clause-done
returns-in_default-clause-done g c = λ b console k p x takes.
    let keeper = done-keeper b c.args.store.now (g.Q.KindKeeper.tells c.args.kinds.now) (g.Q.KindKeeper.room c.args.kinds.now) (outside c.args.bytes.now (g.L.EventLog.noted c.args.log.now) (g.L.EventLog.has_failed c.args.log.now)) console k p x in
    none-done b c.args.store.now (g.Q.KindKeeper.tells c.args.kinds.now) (g.Q.KindKeeper.room c.args.kinds.now) (outside c.args.bytes.now (g.L.EventLog.noted c.args.log.now) (g.L.EventLog.has_failed c.args.log.now)) console k p x
    c.take_request.new.store (g.Q.KindKeeper.tells c.take_request.new.kinds) (g.Q.KindKeeper.room c.take_request.new.kinds) (g.L.EventLog.noted c.take_request.new.log) (g.L.EventLog.has_failed c.take_request.new.log)
    (subst (IsTaken c.args.store.now c.take_request.new.store (g.Q.KindKeeper.tells c.take_request.new.kinds) p.lists) c.in_default.is (c.take_request.ensures.taken p.lists keeper takes)) c.take_request.ensures.room
    (c.take_request.ensures.notes p.lists keeper takes)

pub put_off-requires : goal.put_off-requires
put_off-requires g c =
    let b = c.requires.first.0 in
    let console = c.requires.first.1 in
    let k = c.requires.first.2 in
    let p = c.requires.first.3 in
    let x = c.requires.first.4 in
    let takes = c.requires.first.5 in
    let keeper = done-keeper b c.args.store.now (g.Q.KindKeeper.tells c.args.kinds.now) (g.Q.KindKeeper.room c.args.kinds.now) (outside c.args.bytes.now (g.L.EventLog.noted c.args.log.now) (g.L.EventLog.has_failed c.args.log.now)) console k p x in
    let now = outside c.args.bytes.now (g.L.EventLog.noted c.args.log.now) (g.L.EventLog.has_failed c.args.log.now) in
    let y = subst (IsTaken c.args.store.now c.take_request.new.store (g.Q.KindKeeper.tells c.take_request.new.kinds) p.lists) c.in-Some.is (c.take_request.ensures.taken p.lists keeper takes) in
    let notes = c.take_request.ensures.notes p.lists keeper takes in (
      (taken p.lists).lists,
      request-keeper b c.args.store.now (g.Q.KindKeeper.tells c.args.kinds.now) (g.Q.KindKeeper.room c.args.kinds.now) now console k p x c.take_request.new.store (g.Q.KindKeeper.tells c.take_request.new.kinds)
          (g.Q.KindKeeper.room c.take_request.new.kinds) (g.L.EventLog.noted c.take_request.new.log) (g.L.EventLog.has_failed c.take_request.new.log) c.in-Some.request y c.take_request.ensures.room notes,
      y.has_request,
      request-residents b c.args.store.now (g.Q.KindKeeper.tells c.args.kinds.now) (g.Q.KindKeeper.room c.args.kinds.now) now console k p x c.take_request.new.store (g.Q.KindKeeper.tells c.take_request.new.kinds)
          (g.Q.KindKeeper.room c.take_request.new.kinds) (g.L.EventLog.noted c.take_request.new.log) (g.L.EventLog.has_failed c.take_request.new.log) c.in-Some.request y c.take_request.ensures.room notes,
    )

pub returns-then-request-eq-READ_LINE-clause-done : goal.returns-then-request-eq-READ_LINE-clause-done
returns-then-request-eq-READ_LINE-clause-done g c = λ b console k p x takes.
    let keeper = done-keeper b c.args.store.now (g.Q.KindKeeper.tells c.args.kinds.now) (g.Q.KindKeeper.room c.args.kinds.now) (outside c.args.bytes.now (g.L.EventLog.noted c.args.log.now) (g.L.EventLog.has_failed c.args.log.now)) console k p x in
    let now = outside c.args.bytes.now (g.L.EventLog.noted c.args.log.now) (g.L.EventLog.has_failed c.args.log.now) in
    let y = subst (IsTaken c.args.store.now c.take_request.new.store (g.Q.KindKeeper.tells c.take_request.new.kinds) p.lists) c.in-Some.is (c.take_request.ensures.taken p.lists keeper takes) in
    let notes = c.take_request.ensures.notes p.lists keeper takes in
    let held = request-keeper b c.args.store.now (g.Q.KindKeeper.tells c.args.kinds.now) (g.Q.KindKeeper.room c.args.kinds.now) now console k p x c.take_request.new.store (g.Q.KindKeeper.tells c.take_request.new.kinds)
    (g.Q.KindKeeper.room c.take_request.new.kinds) (g.L.EventLog.noted c.take_request.new.log) (g.L.EventLog.has_failed c.take_request.new.log) c.in-Some.request y c.take_request.ensures.room notes in
    let residents = request-residents b c.args.store.now (g.Q.KindKeeper.tells c.args.kinds.now) (g.Q.KindKeeper.room c.args.kinds.now) now console k p x c.take_request.new.store (g.Q.KindKeeper.tells c.take_request.new.kinds)
    (g.Q.KindKeeper.room c.take_request.new.kinds) (g.L.EventLog.noted c.take_request.new.log) (g.L.EventLog.has_failed c.take_request.new.log) c.in-Some.request y c.take_request.ensures.room notes in
    read-done b c.args.store.now (g.Q.KindKeeper.tells c.args.kinds.now) (g.Q.KindKeeper.room c.args.kinds.now) now console k p x c.take_request.new.store (g.Q.KindKeeper.tells c.take_request.new.kinds)
    (g.Q.KindKeeper.room c.take_request.new.kinds) (g.L.EventLog.noted c.take_request.new.log) (g.L.EventLog.has_failed c.take_request.new.log) c.in-Some.request y c.take_request.ensures.room notes
    c.put_off.new.store (g.Q.KindKeeper.tells c.put_off.new.kinds) (g.Q.KindKeeper.room c.put_off.new.kinds) (g.L.EventLog.noted c.put_off.new.log) (g.L.EventLog.has_failed c.put_off.new.log) c.if-request-eq-READ_LINE.true c.put_off.ensures.room
    (c.put_off.ensures.made _ held y.has_request residents) (c.put_off.ensures.owns _ held y.has_request residents) (c.put_off.ensures.notes _ held y.has_request residents)

pub return_request-requires : goal.return_request-requires
return_request-requires g c =
    let b = c.requires.first.0 in
    let console = c.requires.first.1 in
    let k = c.requires.first.2 in
    let p = c.requires.first.3 in
    let x = c.requires.first.4 in
    let takes = c.requires.first.5 in
    let keeper = done-keeper b c.args.store.now (g.Q.KindKeeper.tells c.args.kinds.now) (g.Q.KindKeeper.room c.args.kinds.now) (outside c.args.bytes.now (g.L.EventLog.noted c.args.log.now) (g.L.EventLog.has_failed c.args.log.now)) console k p x in
    let now = outside c.args.bytes.now (g.L.EventLog.noted c.args.log.now) (g.L.EventLog.has_failed c.args.log.now) in
    let y = subst (IsTaken c.args.store.now c.take_request.new.store (g.Q.KindKeeper.tells c.take_request.new.kinds) p.lists) c.in-Some.is (c.take_request.ensures.taken p.lists keeper takes) in
    let notes = c.take_request.ensures.notes p.lists keeper takes in (
      (taken p.lists).lists,
      request-keeper b c.args.store.now (g.Q.KindKeeper.tells c.args.kinds.now) (g.Q.KindKeeper.room c.args.kinds.now) now console k p x c.take_request.new.store (g.Q.KindKeeper.tells c.take_request.new.kinds)
          (g.Q.KindKeeper.room c.take_request.new.kinds) (g.L.EventLog.noted c.take_request.new.log) (g.L.EventLog.has_failed c.take_request.new.log) c.in-Some.request y c.take_request.ensures.room notes,
      y.runs,
      y.has_request,
      request-number b c.args.store.now (g.Q.KindKeeper.tells c.args.kinds.now) (g.Q.KindKeeper.room c.args.kinds.now) now console k p x c.take_request.new.store (g.Q.KindKeeper.tells c.take_request.new.kinds)
          (g.Q.KindKeeper.room c.take_request.new.kinds) (g.L.EventLog.noted c.take_request.new.log) (g.L.EventLog.has_failed c.take_request.new.log) c.in-Some.request y c.take_request.ensures.room notes,
    )

pub returns-clause-done : goal.returns-clause-done
returns-clause-done g c = λ b console k p x takes.
    let keeper = done-keeper b c.args.store.now (g.Q.KindKeeper.tells c.args.kinds.now) (g.Q.KindKeeper.room c.args.kinds.now) (outside c.args.bytes.now (g.L.EventLog.noted c.args.log.now) (g.L.EventLog.has_failed c.args.log.now)) console k p x in
    let now = outside c.args.bytes.now (g.L.EventLog.noted c.args.log.now) (g.L.EventLog.has_failed c.args.log.now) in
    let y = subst (IsTaken c.args.store.now c.take_request.new.store (g.Q.KindKeeper.tells c.take_request.new.kinds) p.lists) c.in-Some.is (c.take_request.ensures.taken p.lists keeper takes) in
    let notes = c.take_request.ensures.notes p.lists keeper takes in
    let held = request-keeper b c.args.store.now (g.Q.KindKeeper.tells c.args.kinds.now) (g.Q.KindKeeper.room c.args.kinds.now) now console k p x c.take_request.new.store (g.Q.KindKeeper.tells c.take_request.new.kinds)
    (g.Q.KindKeeper.room c.take_request.new.kinds) (g.L.EventLog.noted c.take_request.new.log) (g.L.EventLog.has_failed c.take_request.new.log) c.in-Some.request y c.take_request.ensures.room notes in
    let number = request-number b c.args.store.now (g.Q.KindKeeper.tells c.args.kinds.now) (g.Q.KindKeeper.room c.args.kinds.now) now console k p x c.take_request.new.store (g.Q.KindKeeper.tells c.take_request.new.kinds)
    (g.Q.KindKeeper.room c.take_request.new.kinds) (g.L.EventLog.noted c.take_request.new.log) (g.L.EventLog.has_failed c.take_request.new.log) c.in-Some.request y c.take_request.ensures.room notes in
    answer-done b c.args.store.now (g.Q.KindKeeper.tells c.args.kinds.now) (g.Q.KindKeeper.room c.args.kinds.now) now console k p x c.take_request.new.store (g.Q.KindKeeper.tells c.take_request.new.kinds)
    (g.Q.KindKeeper.room c.take_request.new.kinds) (g.L.EventLog.noted c.take_request.new.log) (g.L.EventLog.has_failed c.take_request.new.log) c.in-Some.request y c.take_request.ensures.room notes
    c.return_request.new.store (g.Q.KindKeeper.tells c.return_request.new.kinds) (g.Q.KindKeeper.room c.return_request.new.kinds) (g.L.EventLog.noted c.return_request.new.log) (g.L.EventLog.has_failed c.return_request.new.log)
    c.answer-answer.result c.answer-answer.new.bytes c.if-request-eq-READ_LINE.false c.answer-answer.ensures.answer c.answer-answer.ensures.bytes c.return_request.ensures.room
    (c.return_request.ensures.made _ held y.runs y.has_request number) (c.return_request.ensures.owns _ held y.runs y.has_request number) (c.return_request.ensures.runs _ y.runs) (c.return_request.ensures.notes _ held y.runs y.has_request number)
