use Rattle.std.proofs.Common.{◌∙◌, sym, arith}
use Rattle.std.proofs.lemmas.Result.{err_from_is_err_and}
use Rattle.module_text.proofs.ShapeCounts.{check_end, check_first, check_more, check_refused, counted_few}
use Rattle.module_text.proofs.check.check_module.Goals as goal

pub loop-token-init : goal.loop-token-init
loop-token-init g c = record { rest = check_first (g.X.TextBytes.text c.args.text.now); few = omega arith; inside = omega arith }

pub returns-in_err-step : goal.returns-in_err-step
returns-in_err-step g c =
    let text = g.X.TextBytes.text c.args.text.now in
    let p = err_from_is_err_and c.from_residual.result c.from_residual.ensures.1 in
    let stop = check_refused text c.loop-token.place c.in-Some.token c.loop-token.shape c.loop-token.expects c.in_err-step.field-0.0 (sym c.in-Some.ensures.place) (sym c.in_err-step.ensures) in
    rw (p.1, p.2) (sym stop ∙ c.loop-token.invariant.rest)

pub loop-token-preserved : goal.loop-token-preserved
loop-token-preserved g c =
    let text = g.X.TextBytes.text c.args.text.now in
    let token = c.in-Some.token in
    let inside = c.in-Some.ensures.inside in
    let after = c.in-Some.ensures.after in
    let more = check_more text c.loop-token.place token c.loop-token.shape c.loop-token.expects c.in_ok-step.step (sym c.in-Some.ensures.place) (sym c.in_ok-step.ensures) in
    record {
      rest = rw c.counted-shape.ensures (more ∙ c.loop-token.invariant.rest);
      few = rw c.counted-shape.ensures (counted_few c.loop-token.shape c.loop-token.expects c.loop-token.place token.end c.loop-token.invariant.few (omega arith));
      inside = inside.1;
    }

pub returns-in_err-finish : goal.returns-in_err-finish
returns-in_err-finish g c =
    let text = g.X.TextBytes.text c.args.text.now in
    let p = err_from_is_err_and c.from_residual-in_err-finish.result c.from_residual-in_err-finish.ensures.1 in
    let end = check_end text c.loop-token.place c.loop-token.shape c.loop-token.expects (sym c.next_span.ensures.place ∙ c.in_default.is) in
    rw (p.1, p.2) (sym (rw (← c.in_err-finish.ensures) at end) ∙ c.loop-token.invariant.rest)

pub returns : goal.returns
returns g c =
    let text = g.X.TextBytes.text c.args.text.now in
    let end = check_end text c.loop-token.place c.loop-token.shape c.loop-token.expects (sym c.next_span.ensures.place ∙ c.in_default.is) in
    sym (rw (← c.in_ok-finish.ensures) at end) ∙ c.loop-token.invariant.rest
