use Rattle.kernel_calls.specs.CallAnswers.Outside.{outside}
use Rattle.resident_tasks.proofs.ConsoleHandler.PressedKeys.{key-done}
use Rattle.resident_tasks.proofs.console_handler.presses.take_key.Goals as goal

pub take_keys-key-requires : goal.take_keys-key-requires
take_keys-key-requires g c = (c.requires.first.2.lists, c.requires.first.3.lists.lists, c.requires.first.4)

pub set_flags-unknown-requires : goal.set_flags-unknown-requires
set_flags-unknown-requires g c = (_, (c.take_keys-key.ensures.taken c.requires.first.2.lists c.requires.first.3.lists.lists c.requires.first.4).lists.lists)

pub returns : goal.returns
returns g c = λ b k p x first.
    let taken = c.take_keys-key.ensures.taken p.lists x.lists.lists first in
    key-done b c.args.store.now (g.Q.KindKeeper.tells c.args.kinds.now) (g.Q.KindKeeper.room c.args.kinds.now) (outside c.args.bytes.now (g.L.EventLog.noted c.args.log.now) (g.L.EventLog.has_failed c.args.log.now)) c.args.state.now k p x
    c.take_keys-key.new.store c.take_keys-key.result (g.L.EventLog.noted c.take_keys-key.new.log) (g.L.EventLog.has_failed c.take_keys-key.new.log) taken
    (λ a. c.take_keys-key.ensures.same p.lists a x.lists.lists first) (c.take_keys-key.ensures.runs p.lists x.lists.lists first) (c.take_keys-key.ensures.notes p.lists x.lists.lists first)
    c.set_flags-unknown.new.store c.args.awaited c.press-flags.result c.press-flags.new.self c.press-flags.new.bytes _ c.press-flags.ensures.console c.press-flags.ensures.echo c.press-flags.ensures.flags
    (c.set_flags-unknown.ensures _ taken.lists.lists)
