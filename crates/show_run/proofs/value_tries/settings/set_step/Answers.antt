use Rattle.std.proofs.Common.{◌≡◌, ◌∙◌, ◌+◌, ◌-◌, sym, ap, arith}
use Rattle.show_run.specs.ValueTries.Settings.{keys_with}
use Rattle.show_run.proofs.ValueTries.SetValues.{keys_with-none, keys_with-set, keys_with-zero}
use Rattle.show_run.proofs.value_tries.settings.set_step.Goals as goal
use Rattle.show_run.proofs.value_tries.settings.set_step.Goals.{else-number-ge1-via-then-number-ge1+else-number-keys, else-number-ge1-via-else-number-ge1}

pub returns-then-number-keys : goal.returns-then-number-keys
returns-then-number-keys c =
    let keys = c.args.keys.now in
    let place : c.args.number - 1 + 1 ≡ c.args.number = omega (arith, c.if-number-ge1.true) in
    sym (keys_with-set (c.args.number - 1) c.args.step keys (0, 0) (omega (arith, c.if-number-ge1.true, c.if-number-keys.true))) ∙ ap (λ n. keys_with n c.args.step keys) place

pub returns-else-number-ge1 : goal.returns-else-number-ge1
returns-else-number-ge1 c =
    let keys = c.args.keys.now in
    elim c.else-number-ge1.branch [
      | else-number-ge1-via-then-number-ge1+else-number-keys w ↦ sym (keys_with-none c.args.number c.args.step keys (omega (arith, w.if-number-keys.false)))
      | else-number-ge1-via-else-number-ge1 w ↦ (let e : c.args.number ≡ 0 = omega (arith, w.if-number-ge1.false) in sym (ap (λ n. keys_with n c.args.step keys) e ∙ keys_with-zero c.args.step keys))
    ]
