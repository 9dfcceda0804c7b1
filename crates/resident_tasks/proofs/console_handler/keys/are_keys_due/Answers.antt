use Rattle.std.proofs.Common.{◌∙◌, ◌&&◌, ap, is_some, not, sym}
use Rattle.std.proofs.Math.Bool.{and-false, and-true}
use Rattle.resident_tasks.proofs.console_handler.keys.are_keys_due.Goals as goal

pub returns-then-is_finished : goal.returns-then-is_finished
returns-then-is_finished c = λ l h residents. sym (ap (λ f. is_some l.key && not f) (sym c.is_finished.ensures ∙ c.if-is_finished.true) ∙ and-false (is_some l.key))

pub returns : goal.returns
returns c = λ l h residents.
    c.are_keys_free.ensures l h residents
    ∙ sym (ap (λ f. is_some l.key && not f) (sym c.is_finished.ensures ∙ c.if-is_finished.false) ∙ and-true (is_some l.key))
