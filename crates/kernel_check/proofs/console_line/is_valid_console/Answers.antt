use Rattle.std.proofs.Common.{◌∙◌, arith, sym}
use Rattle.std.proofs.lemmas.Bool.{false≢true}
use Rattle.kernel_model.specs.KernelRecord.Recovered.{lists_in}
use Rattle.kernel_check.proofs.ConsoleLine.{absent-valid, line-valid}
use Rattle.kernel_check.proofs.console_line.is_valid_console.Goals as goal

pub returns-then-not-has_residents : goal.returns-then-not-has_residents
returns-then-not-has_residents c =
    absent-valid (lists_in c.args.store.now) c.args.line.now c.args.finished (omega (arith, c.if-line-gt-MOST_LINE.false)) (sym c.has_residents.ensures ∙ c.if-not-has_residents.true) c.is_absent.result
    c.is_absent.ensures

pub returns-then-not-key_tells : goal.returns-then-not-key_tells
returns-then-not-key_tells c = (λ t. absurd (false≢true t), λ h. sym c.if-not-key_tells.true ∙ c.key_tells.ensures.1 (h.finished (sym c.has_residents.ensures ∙ c.if-not-has_residents.false)))

pub returns : goal.returns
returns c = (
  λ t. line-valid (lists_in c.args.store.now) c.args.line.now c.args.finished (omega (arith, c.if-line-gt-MOST_LINE.false)) (sym c.has_residents.ensures ∙ c.if-not-has_residents.false)
      (c.key_tells.ensures.0 c.if-not-key_tells.false) (c.is_delivered.ensures.0 t),
  λ h. c.is_delivered.ensures.1 h.delivered,
)
