use Rattle.std.proofs.Common.{◌∙◌, ◌&&◌, ap, is_some, not, sym, subst}
use Rattle.std.proofs.lemmas.Bool.{and_parts}
use Rattle.kernel_calls.specs.CallAnswers.Outside.{outside}
use Rattle.resident_tasks.specs.ConsoleHandler.TurnParts.{IsDone}
use Rattle.resident_tasks.proofs.ConsoleHandler.DoneParts.{done-residents}
use Rattle.resident_tasks.proofs.ConsoleHandler.FreeKeys.{keys-go, keys-stay}
use Rattle.resident_tasks.proofs.console_handler.keys.send_free_keys.Goals as goal

pub returns-then-not-are_keys_due-clause-done : goal.returns-then-not-are_keys_due-clause-done
returns-then-not-are_keys_due-clause-done g c = λ b shown k p x.
    let now = outside shown (g.L.EventLog.noted c.args.log.now) (g.L.EventLog.has_failed c.args.log.now) in
    let residents = done-residents b c.args.store.now (g.Q.KindKeeper.tells c.args.kinds.now) (g.Q.KindKeeper.room c.args.kinds.now) now c.args.state.now k p x in
    subst (IsDone b c.args.store.now (g.Q.KindKeeper.tells c.args.kinds.now) (g.Q.KindKeeper.room c.args.kinds.now) now c.args.state.now k)
    (sym (keys-stay p (ap (λ z. is_some p.lists.key && not z.finished) (sym x.line) ∙ (sym (c.are_keys_due.ensures p.lists x.lists.lists residents) ∙ c.if-not-are_keys_due.true)))) x

pub send_keys-requires : goal.send_keys-requires
send_keys-requires g c =
    let now = outside c.requires.1 (g.L.EventLog.noted c.args.log.now) (g.L.EventLog.has_failed c.args.log.now) in
    let p = c.requires.3 in
    let x = c.requires.4 in
    let residents = done-residents c.requires.0 c.args.store.now (g.Q.KindKeeper.tells c.args.kinds.now) (g.Q.KindKeeper.room c.args.kinds.now) now c.args.state.now c.requires.2 p x in
    let due = sym (c.are_keys_due.ensures p.lists x.lists.lists residents) ∙ c.if-not-are_keys_due.false in
    (c.requires.0, c.requires.1, c.args.state.now, c.requires.2, p, x, (and_parts (is_some p.lists.key) (not c.args.state.now.finished) due).0)

pub returns-clause-done : goal.returns-clause-done
returns-clause-done g c = λ b shown k p x.
    let now = outside shown (g.L.EventLog.noted c.args.log.now) (g.L.EventLog.has_failed c.args.log.now) in
    let after = outside shown (g.L.EventLog.noted c.send_keys.new.log) (g.L.EventLog.has_failed c.send_keys.new.log) in
    let residents = done-residents b c.args.store.now (g.Q.KindKeeper.tells c.args.kinds.now) (g.Q.KindKeeper.room c.args.kinds.now) now c.args.state.now k p x in
    let due = sym (c.are_keys_due.ensures p.lists x.lists.lists residents) ∙ c.if-not-are_keys_due.false in
    let free = (and_parts (is_some p.lists.key) (not c.args.state.now.finished) due).0 in
    subst (IsDone b c.send_keys.new.store (g.Q.KindKeeper.tells c.send_keys.new.kinds) (g.Q.KindKeeper.room c.send_keys.new.kinds) after c.args.state.now k)
    (sym (keys-go p (ap (λ z. is_some p.lists.key && not z.finished) (sym x.line) ∙ due))) (c.send_keys.ensures.done b shown c.args.state.now k p x free)
