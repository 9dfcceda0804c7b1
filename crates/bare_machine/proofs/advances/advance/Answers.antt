use Rattle.std.proofs.Common.{◌∙◌, ◌++◌, None, ap, arith, subst, sym}
use Rattle.bare_machine.specs.Run.{Avoids, is_met, run}
use Rattle.bare_machine.specs.State.{bare_state}
use Rattle.bare_machine.proofs.Breakpoints.{avoids-more}
use Rattle.bare_machine.proofs.StepsBehind.{few-steps, going-on, more-bytes, more-goes, more-state}
use Rattle.bare_machine.proofs.advances.advance.Goals as goal

pub pass_and_step-more-requires-clause-steps : goal.pass_and_step-more-requires-clause-steps
pass_and_step-more-requires-clause-steps c =
    let kept = c.loop-parts.invariant in
    let goes = c.may_go_on.ensures.goes c.loop-parts-test.true in
    omega (arith, c.requires.steps, kept.most, few-steps c.loop-parts.done.steps (bare_state c.args.parts.now None) c.loop-parts.parts c.loop-parts.done.stop goes kept.state)

pub loop-parts-preserved : goal.loop-parts-preserved
loop-parts-preserved c =
    let kept = c.loop-parts.invariant in
    let more = c.pass_and_step-more.ensures in
    let first = bare_state c.args.parts.now None in
    let goes = c.may_go_on.ensures.goes c.loop-parts-test.true in
    record {
      some = omega (arith, kept.some);
      most = omega (arith, kept.most, more.most);
      state = more.state ∙ more-state c.loop-parts.done.steps first c.loop-parts.parts c.loop-parts.done.stop goes kept.state c.pass_and_step-more.result.steps;
      bytes =
          more.bytes ∙ ap (λ v. v ++ (run c.pass_and_step-more.result.steps (bare_state c.loop-parts.parts None)).bytes) kept.bytes
          ∙ more-bytes c.loop-parts.done.steps first c.loop-parts.parts c.loop-parts.done.stop goes kept.state c.pass_and_step-more.result.steps;
      last = more-goes c.loop-parts.done.steps first c.loop-parts.parts c.loop-parts.done.stop goes kept.state c.pass_and_step-more.result.steps more.some more.last;
      before =
          let here = going-on c.loop-parts.done.steps first c.loop-parts.parts c.loop-parts.done.stop goes kept.state in
          avoids-more c.args.breakpoints.now c.loop-parts.done.steps c.pass_and_step-more.result.steps first kept.before
          (ap (is_met c.args.breakpoints.now) (sym here) ∙ (sym c.is_met.ensures ∙ c.if-not-is_met.true)) (subst (Avoids c.args.breakpoints.now c.pass_and_step-more.result.steps) here more.before);
      sound = more.sound;
    }
