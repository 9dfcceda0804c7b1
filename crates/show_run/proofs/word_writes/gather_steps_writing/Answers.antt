use Rattle.std.proofs.Common.{◌∙◌, ◌<◌, ap, sym, arith}
use Rattle.std.specs.Prelude.{is_some}
use Rattle.std.proofs.lemmas.Result.{err_from_is_err_and}
use Rattle.show_run.specs.WordWrites.{writes_text}
use Rattle.show_run.proofs.WrittenSteps.{tells-writes}
use Rattle.show_run.proofs.ToldSteps.{told-all, told-cut, told-more, told-none, told-room, told-stopped}
use Rattle.show_run.proofs.word_writes.gather_steps_writing.Goals as goal

pub loop-init : goal.loop-init
loop-init g c = record { so_far = told-none (λ n s. writes_text n c.args.address s) c.args.n c.args.machine.now.state _ _ c.requires; later = omega arith }

pub gather_step_writing-requires-clause-steps : goal.gather_step_writing-requires-clause-steps
gather_step_writing-requires-clause-steps g c =
    let few : c.loop.counter < c.args.n = omega arith in
    told-room (tells-writes c.args.address) c.loop.invariant.so_far few (ap is_some (sym c.stop.ensures) ∙ sym c.is_some.ensures ∙ c.if-is_some.false)

pub returns-then-is_some-clause-text : goal.returns-then-is_some-clause-text
returns-then-is_some-clause-text g c = told-stopped (tells-writes c.args.address) c.loop.invariant.so_far (ap is_some (sym c.stop.ensures) ∙ sym c.is_some.ensures ∙ c.if-is_some.true)

pub returns-in_err-gather_step_writing-clause-text : goal.returns-in_err-gather_step_writing-clause-text
returns-in_err-gather_step_writing-clause-text g c =
    let few : c.loop.counter < c.args.n = omega arith in
    let goes = ap is_some (sym c.stop.ensures) ∙ sym c.is_some.ensures ∙ c.if-is_some.false in
    let p = err_from_is_err_and c.from_residual.result c.from_residual.ensures.1 in
    rw p.1 (told-cut (tells-writes c.args.address) c.loop.invariant.so_far few goes c.in_err-gather_step_writing.ensures.text)

pub loop-preserved : goal.loop-preserved
loop-preserved g c =
    let few : c.loop.counter < c.args.n = omega arith in
    let goes = ap is_some (sym c.stop.ensures) ∙ sym c.is_some.ensures ∙ c.if-is_some.false in
    let after = c.in_ok-gather_step_writing.ensures in
    record {
      so_far = told-more (tells-writes c.args.address) c.loop.invariant.so_far few goes _ after.state after.text;
      later = omega (arith, c.loop.invariant.later, after.cause.later);
    }

pub returns-clause-text : goal.returns-clause-text
returns-clause-text g c = told-all (tells-writes c.args.address) c.loop.invariant.so_far (omega arith)
