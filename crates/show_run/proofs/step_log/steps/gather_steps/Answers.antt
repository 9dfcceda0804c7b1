use Rattle.std.proofs.Common.{◌∙◌, ◌<◌, ap, sym, arith}
use Rattle.std.specs.Prelude.{is_some}
use Rattle.std.proofs.lemmas.Result.{err_from_is_err_and}
use Rattle.show_run.specs.StepLog.StepLines.{log_text}
use Rattle.show_run.proofs.StepLog.SteppedLines.{tells-log}
use Rattle.show_run.proofs.ToldSteps.{state-all, state-stopped, told-all, told-cut, told-more, told-none, told-room, told-stopped}
use Rattle.show_run.proofs.step_log.steps.gather_steps.Goals as goal

pub loop-init : goal.loop-init
loop-init g c = record { so_far = told-none log_text c.args.n c.args.machine.now.state _ _ c.requires.steps; size = c.requires.size; later = omega arith }

pub gather_step-requires-clause-steps : goal.gather_step-requires-clause-steps
gather_step-requires-clause-steps g c =
    let few : c.loop.counter < c.args.n = omega arith in
    told-room tells-log c.loop.invariant.so_far few (ap is_some (sym c.stop.ensures) ∙ sym c.is_some.ensures ∙ c.if-is_some.false)

pub returns-then-is_some-clause-text : goal.returns-then-is_some-clause-text
returns-then-is_some-clause-text g c = told-stopped tells-log c.loop.invariant.so_far (ap is_some (sym c.stop.ensures) ∙ sym c.is_some.ensures ∙ c.if-is_some.true)

pub returns-then-is_some-clause-state : goal.returns-then-is_some-clause-state
returns-then-is_some-clause-state g c = state-stopped tells-log c.loop.invariant.so_far (ap is_some (sym c.stop.ensures) ∙ sym c.is_some.ensures ∙ c.if-is_some.true)

pub returns-in_err-gather_step-clause-text : goal.returns-in_err-gather_step-clause-text
returns-in_err-gather_step-clause-text g c =
    let few : c.loop.counter < c.args.n = omega arith in
    let goes = ap is_some (sym c.stop.ensures) ∙ sym c.is_some.ensures ∙ c.if-is_some.false in
    let p = err_from_is_err_and c.from_residual.result c.from_residual.ensures.1 in
    rw p.1 (told-cut tells-log c.loop.invariant.so_far few goes c.in_err-gather_step.ensures.text)

pub loop-preserved : goal.loop-preserved
loop-preserved g c =
    let few : c.loop.counter < c.args.n = omega arith in
    let goes = ap is_some (sym c.stop.ensures) ∙ sym c.is_some.ensures ∙ c.if-is_some.false in
    let after = c.in_ok-gather_step.ensures in
    record {
      so_far = told-more tells-log c.loop.invariant.so_far few goes _ after.state after.text;
      size = after.size;
      later = omega (arith, c.loop.invariant.later, after.cause.later);
    }

pub returns-clause-text : goal.returns-clause-text
returns-clause-text g c = told-all tells-log c.loop.invariant.so_far (omega arith)

pub returns-clause-state : goal.returns-clause-state
returns-clause-state g c = state-all tells-log c.loop.invariant.so_far (omega arith)
