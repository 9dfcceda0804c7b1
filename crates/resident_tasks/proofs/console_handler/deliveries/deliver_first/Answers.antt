use Rattle.std.proofs.Common.{◌∙◌, sym, ap, subst}
use Rattle.resident_tasks.specs.ConsoleHandler.Deliveries.{line_service}
use Rattle.kernel_calls.specs.CallAnswers.Outside.{outside}
use Rattle.resident_tasks.specs.ConsoleHandler.Reads.{IsReadTaken, read_taken}
use Rattle.resident_tasks.proofs.ConsoleHandler.DoneParts.{done-keeper, done-residents}
use Rattle.resident_tasks.proofs.ConsoleHandler.HandedLines.{hand-done, hand-keeper, hand-kept, hand-number, hand-request, hand-runs, nothing-done}
use Rattle.resident_tasks.proofs.console_handler.deliveries.deliver_first.Goals as goal

pub returns-in_default-clause-done : goal.returns-in_default-clause-done
returns-in_default-clause-done g c = λ b shown p x.
    let now = outside shown (g.L.EventLog.noted c.args.log.now) (g.L.EventLog.has_failed c.args.log.now) in
    let keeper = done-keeper b c.args.store.now (g.Q.KindKeeper.tells c.args.kinds.now) (g.Q.KindKeeper.room c.args.kinds.now) now c.args.state.now c.args.shell_line.now.items p x in
    let residents = done-residents b c.args.store.now (g.Q.KindKeeper.tells c.args.kinds.now) (g.Q.KindKeeper.room c.args.kinds.now) now c.args.state.now c.args.shell_line.now.items p x in
    nothing-done b c.args.store.now (g.Q.KindKeeper.tells c.args.kinds.now) (g.Q.KindKeeper.room c.args.kinds.now) now c.args.state.now c.args.shell_line.now.items p x
    c.take_read.new.store (g.Q.KindKeeper.tells c.take_read.new.kinds) (g.Q.KindKeeper.room c.take_read.new.kinds) (g.L.EventLog.noted c.take_read.new.log) (g.L.EventLog.has_failed c.take_read.new.log) c.take_read.ensures.room
    (c.take_read.ensures.notes p.lists keeper residents)
    (subst (IsReadTaken c.args.store.now c.take_read.new.store (g.Q.KindKeeper.tells c.take_read.new.kinds) p.lists) c.in_default.is (c.take_read.ensures.taken p.lists keeper residents))

pub line_answer-answer-requires-clause-keeper : goal.line_answer-answer-requires-clause-keeper
line_answer-answer-requires-clause-keeper g c =
    let b = c.requires.0 in
    let p = c.requires.2 in
    let x = c.requires.3 in
    let now = outside c.requires.1 (g.L.EventLog.noted c.args.log.now) (g.L.EventLog.has_failed c.args.log.now) in
    let keeper = done-keeper b c.args.store.now (g.Q.KindKeeper.tells c.args.kinds.now) (g.Q.KindKeeper.room c.args.kinds.now) now c.args.state.now c.args.shell_line.now.items p x in
    let residents = done-residents b c.args.store.now (g.Q.KindKeeper.tells c.args.kinds.now) (g.Q.KindKeeper.room c.args.kinds.now) now c.args.state.now c.args.shell_line.now.items p x in
    let y = subst (IsReadTaken c.args.store.now c.take_read.new.store (g.Q.KindKeeper.tells c.take_read.new.kinds) p.lists) c.in-Some.is (c.take_read.ensures.taken p.lists keeper residents) in (
      _,
      hand-keeper b c.args.store.now (g.Q.KindKeeper.tells c.args.kinds.now) (g.Q.KindKeeper.room c.args.kinds.now) now c.args.state.now c.args.shell_line.now.items p x
          c.take_read.new.store (g.Q.KindKeeper.tells c.take_read.new.kinds) (g.Q.KindKeeper.room c.take_read.new.kinds) (g.L.EventLog.noted c.take_read.new.log) (g.L.EventLog.has_failed c.take_read.new.log) c.take_read.ensures.room
          (c.take_read.ensures.notes p.lists keeper residents) c.in-Some.read y,
    )

pub return_request-requires : goal.return_request-requires
return_request-requires g c =
    let b = c.requires.0 in
    let p = c.requires.2 in
    let x = c.requires.3 in
    let now = outside c.requires.1 (g.L.EventLog.noted c.args.log.now) (g.L.EventLog.has_failed c.args.log.now) in
    let keeper = done-keeper b c.args.store.now (g.Q.KindKeeper.tells c.args.kinds.now) (g.Q.KindKeeper.room c.args.kinds.now) now c.args.state.now c.args.shell_line.now.items p x in
    let residents = done-residents b c.args.store.now (g.Q.KindKeeper.tells c.args.kinds.now) (g.Q.KindKeeper.room c.args.kinds.now) now c.args.state.now c.args.shell_line.now.items p x in
    let y = subst (IsReadTaken c.args.store.now c.take_read.new.store (g.Q.KindKeeper.tells c.take_read.new.kinds) p.lists) c.in-Some.is (c.take_read.ensures.taken p.lists keeper residents) in
    let notes = c.take_read.ensures.notes p.lists keeper residents in
    let held = hand-keeper b c.args.store.now (g.Q.KindKeeper.tells c.args.kinds.now) (g.Q.KindKeeper.room c.args.kinds.now) now c.args.state.now c.args.shell_line.now.items p x
    c.take_read.new.store (g.Q.KindKeeper.tells c.take_read.new.kinds) (g.Q.KindKeeper.room c.take_read.new.kinds) (g.L.EventLog.noted c.take_read.new.log) (g.L.EventLog.has_failed c.take_read.new.log) c.take_read.ensures.room notes c.in-Some.read y in
    let serves = c.line_answer-answer.ensures.service _ held ∙ ap (λ z. line_service c.take_read.new.store (read_taken p.lists).lists z c.in-Some.read) c.line.ensures.bytes in (
      _,
      hand-kept b c.args.store.now (g.Q.KindKeeper.tells c.args.kinds.now) (g.Q.KindKeeper.room c.args.kinds.now) now c.args.state.now c.args.shell_line.now.items p x
          c.take_read.new.store (g.Q.KindKeeper.tells c.take_read.new.kinds) (g.Q.KindKeeper.room c.take_read.new.kinds) (g.L.EventLog.noted c.take_read.new.log) (g.L.EventLog.has_failed c.take_read.new.log) c.take_read.ensures.room notes
          c.in-Some.read y _ _ serves c.write_buffer.new.store c.write_buffer.ensures.words,
      hand-runs b c.args.store.now (g.Q.KindKeeper.tells c.args.kinds.now) (g.Q.KindKeeper.room c.args.kinds.now) now c.args.state.now c.args.shell_line.now.items p x
          c.take_read.new.store (g.Q.KindKeeper.tells c.take_read.new.kinds) (g.Q.KindKeeper.room c.take_read.new.kinds) (g.L.EventLog.noted c.take_read.new.log) (g.L.EventLog.has_failed c.take_read.new.log) c.take_read.ensures.room notes
          c.in-Some.read y,
      hand-request b c.args.store.now (g.Q.KindKeeper.tells c.args.kinds.now) (g.Q.KindKeeper.room c.args.kinds.now) now c.args.state.now c.args.shell_line.now.items p x
          c.take_read.new.store (g.Q.KindKeeper.tells c.take_read.new.kinds) (g.Q.KindKeeper.room c.take_read.new.kinds) (g.L.EventLog.noted c.take_read.new.log) (g.L.EventLog.has_failed c.take_read.new.log) c.take_read.ensures.room notes
          c.in-Some.read y _ _ serves c.write_buffer.new.store c.write_buffer.ensures.words,
      hand-number b c.args.store.now (g.Q.KindKeeper.tells c.args.kinds.now) (g.Q.KindKeeper.room c.args.kinds.now) now c.args.state.now c.args.shell_line.now.items p x
          c.take_read.new.store (g.Q.KindKeeper.tells c.take_read.new.kinds) (g.Q.KindKeeper.room c.take_read.new.kinds) (g.L.EventLog.noted c.take_read.new.log) (g.L.EventLog.has_failed c.take_read.new.log) c.take_read.ensures.room notes
          c.in-Some.read y,
    )

pub returns-clause-done : goal.returns-clause-done
returns-clause-done g c = λ b shown p x.
    let now = outside shown (g.L.EventLog.noted c.args.log.now) (g.L.EventLog.has_failed c.args.log.now) in
    let keeper = done-keeper b c.args.store.now (g.Q.KindKeeper.tells c.args.kinds.now) (g.Q.KindKeeper.room c.args.kinds.now) now c.args.state.now c.args.shell_line.now.items p x in
    let residents = done-residents b c.args.store.now (g.Q.KindKeeper.tells c.args.kinds.now) (g.Q.KindKeeper.room c.args.kinds.now) now c.args.state.now c.args.shell_line.now.items p x in
    let y = subst (IsReadTaken c.args.store.now c.take_read.new.store (g.Q.KindKeeper.tells c.take_read.new.kinds) p.lists) c.in-Some.is (c.take_read.ensures.taken p.lists keeper residents) in
    let notes = c.take_read.ensures.notes p.lists keeper residents in
    let held = hand-keeper b c.args.store.now (g.Q.KindKeeper.tells c.args.kinds.now) (g.Q.KindKeeper.room c.args.kinds.now) now c.args.state.now c.args.shell_line.now.items p x
    c.take_read.new.store (g.Q.KindKeeper.tells c.take_read.new.kinds) (g.Q.KindKeeper.room c.take_read.new.kinds) (g.L.EventLog.noted c.take_read.new.log) (g.L.EventLog.has_failed c.take_read.new.log) c.take_read.ensures.room notes c.in-Some.read y in
    let runs = hand-runs b c.args.store.now (g.Q.KindKeeper.tells c.args.kinds.now) (g.Q.KindKeeper.room c.args.kinds.now) now c.args.state.now c.args.shell_line.now.items p x
    c.take_read.new.store (g.Q.KindKeeper.tells c.take_read.new.kinds) (g.Q.KindKeeper.room c.take_read.new.kinds) (g.L.EventLog.noted c.take_read.new.log) (g.L.EventLog.has_failed c.take_read.new.log) c.take_read.ensures.room notes c.in-Some.read y in
    let number = hand-number b c.args.store.now (g.Q.KindKeeper.tells c.args.kinds.now) (g.Q.KindKeeper.room c.args.kinds.now) now c.args.state.now c.args.shell_line.now.items p x
    c.take_read.new.store (g.Q.KindKeeper.tells c.take_read.new.kinds) (g.Q.KindKeeper.room c.take_read.new.kinds) (g.L.EventLog.noted c.take_read.new.log) (g.L.EventLog.has_failed c.take_read.new.log) c.take_read.ensures.room notes c.in-Some.read y in
    let serves = c.line_answer-answer.ensures.service _ held ∙ ap (λ z. line_service c.take_read.new.store (read_taken p.lists).lists z c.in-Some.read) c.line.ensures.bytes in
    let kept = hand-kept b c.args.store.now (g.Q.KindKeeper.tells c.args.kinds.now) (g.Q.KindKeeper.room c.args.kinds.now) now c.args.state.now c.args.shell_line.now.items p x
    c.take_read.new.store (g.Q.KindKeeper.tells c.take_read.new.kinds) (g.Q.KindKeeper.room c.take_read.new.kinds) (g.L.EventLog.noted c.take_read.new.log) (g.L.EventLog.has_failed c.take_read.new.log) c.take_read.ensures.room notes
    c.in-Some.read y _ _ serves c.write_buffer.new.store c.write_buffer.ensures.words in
    let has-request = hand-request b c.args.store.now (g.Q.KindKeeper.tells c.args.kinds.now) (g.Q.KindKeeper.room c.args.kinds.now) now c.args.state.now c.args.shell_line.now.items p x
    c.take_read.new.store (g.Q.KindKeeper.tells c.take_read.new.kinds) (g.Q.KindKeeper.room c.take_read.new.kinds) (g.L.EventLog.noted c.take_read.new.log) (g.L.EventLog.has_failed c.take_read.new.log) c.take_read.ensures.room notes
    c.in-Some.read y _ _ serves c.write_buffer.new.store c.write_buffer.ensures.words in
    hand-done b c.args.store.now (g.Q.KindKeeper.tells c.args.kinds.now) (g.Q.KindKeeper.room c.args.kinds.now) now c.args.state.now c.args.shell_line.now.items p x
    c.take_read.new.store (g.Q.KindKeeper.tells c.take_read.new.kinds) (g.Q.KindKeeper.room c.take_read.new.kinds) (g.L.EventLog.noted c.take_read.new.log) (g.L.EventLog.has_failed c.take_read.new.log) c.take_read.ensures.room notes
    c.in-Some.read y _ _ serves c.write_buffer.new.store c.write_buffer.ensures.words
    c.return_request.new.store (g.Q.KindKeeper.tells c.return_request.new.kinds) (g.Q.KindKeeper.room c.return_request.new.kinds) (g.L.EventLog.noted c.return_request.new.log) (g.L.EventLog.has_failed c.return_request.new.log)
    c.hand_line.new.state c.hand_line.new.shell_line.items (sym c.is_finished.ensures ∙ c.if-not-is_finished.false) c.return_request.ensures.room (c.return_request.ensures.made _ kept runs has-request number)
    (c.return_request.ensures.owns _ kept runs has-request number) (c.return_request.ensures.runs _ runs) (c.return_request.ensures.notes _ kept runs has-request number) c.hand_line.ensures.console c.hand_line.ensures.shell
