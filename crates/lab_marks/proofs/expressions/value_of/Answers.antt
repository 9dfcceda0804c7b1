use Rattle.std.proofs.Common.{◌∙◌, ◌+◌, ◌-◌, length, sym, ap, refl, arith}
use Rattle.std.proofs.lemmas.Result.{err_from_is_err_and}
use Rattle.module_text.specs.TextReader.Steps.{◌>>=◌}
use Rattle.lab_marks.specs.Expressions.{reading_kept, value_after}
use Rattle.lab_marks.specs.Known.{kept}
use Rattle.lab_marks.specs.Tokens.{tokens_within}
use Rattle.lab_marks.proofs.ReadTokens.{ends-at_token, no_token, one_token}
use Rattle.lab_marks.proofs.expressions.value_of.Goals as goal

pub returns-in_default : goal.returns-in_default
returns-in_default c =
    rw (sym c.loop-done.invariant, no_token _ _ _ _ _ (sym c.next_token.ensures ∙ rw c.in_default.is refl)) c.ended.ensures

pub returns-in_err-reading : goal.returns-in_err-reading
returns-in_err-reading c =
    let p = err_from_is_err_and c.from_residual.result c.from_residual.ensures.1 in
    let one = one_token (kept c.args.known.now) c.args.text.now (reading_kept c.loop-done.reading) (length c.args.text.now - c.loop-done.done) (length c.args.text.now - (c.loop-done.done + 1)) _ (c.in-Some.placed, c.in-Some.others.now) (omega (arith, c.loop-done-test.true)) (sym c.in-Some.ensures) in
    rw (p.1, p.2) (ends-at_token _ _ _ _ c.in_err-reading.ensures (sym one ∙ c.loop-done.invariant))

pub loop-done-preserved : goal.loop-done-preserved
loop-done-preserved c =
    let one = one_token (kept c.args.known.now) c.args.text.now (reading_kept c.loop-done.reading) (length c.args.text.now - c.loop-done.done) (length c.args.text.now - (c.loop-done.done + 1)) _ (c.in-Some.placed, c.in-Some.others.now) (omega (arith, c.loop-done-test.true)) (sym c.in-Some.ensures) in
    sym (one
    ∙ ap (λ r. r >>= (λ r. value_after (kept c.args.known.now) c.args.text.now r (tokens_within (length c.args.text.now - (c.loop-done.done + 1)) c.in-Some.others.now))) c.in_ok-reading.ensures)
    ∙ c.loop-done.invariant
