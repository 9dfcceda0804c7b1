use Rattle.std.proofs.Common.{◌∙◌, ◌+◌, ◌-◌, length, sym, ap, refl, arith}
use Rattle.std.proofs.lemmas.Result.{err_from_is_err_and}
use Rattle.module_text.specs.TextReader.Steps.{◌>>=◌}
use Rattle.lab_marks.specs.Cuts.{cut}
use Rattle.lab_marks.specs.Fillings.{filled_after}
use Rattle.lab_marks.specs.Known.{kept}
use Rattle.lab_marks.proofs.FilledTexts.{first_braces, no_braces}
use Rattle.lab_marks.proofs.ReadTokens.{ends-at_token}
use Rattle.lab_marks.proofs.fillings.filled.Goals as goal

pub returns-in_default : goal.returns-in_default
returns-in_default c =
    rw (sym c.loop-done.invariant, no_braces _ _ _ _ _ (ap (cut 123) (sym c.bytes.ensures) ∙ sym c.cut.ensures ∙ rw c.in_default.is refl)) c.whole.ensures

pub returns-in_err-filling : goal.returns-in_err-filling
returns-in_err-filling c =
    let p = err_from_is_err_and c.from_residual.result c.from_residual.ensures.1 in
    let one = first_braces (length c.args.text.now - c.loop-done.done) (length c.args.text.now - (c.loop-done.done + 1)) (kept c.args.known.now) c.args.is_pattern c.loop-done.filling.made.items c.loop-done.filling.rest
    (c.in-Some.before.now, c.in-Some.others.now) (omega (arith, c.loop-done-test.true)) (ap (cut 123) (sym c.bytes.ensures) ∙ sym c.in-Some.ensures) in
    rw (p.1, p.2) (ends-at_token _ _ _ _ c.in_err-filling.ensures (sym one ∙ c.loop-done.invariant))

pub loop-done-preserved : goal.loop-done-preserved
loop-done-preserved c =
    let one = first_braces (length c.args.text.now - c.loop-done.done) (length c.args.text.now - (c.loop-done.done + 1)) (kept c.args.known.now) c.args.is_pattern c.loop-done.filling.made.items c.loop-done.filling.rest
    (c.in-Some.before.now, c.in-Some.others.now) (omega (arith, c.loop-done-test.true)) (ap (cut 123) (sym c.bytes.ensures) ∙ sym c.in-Some.ensures) in
    sym (one
    ∙ ap (λ r. r >>= (λ filling. filled_after (length c.args.text.now - (c.loop-done.done + 1)) (kept c.args.known.now) c.args.is_pattern filling.0 filling.1)) c.in_ok-filling.ensures)
    ∙ c.loop-done.invariant
