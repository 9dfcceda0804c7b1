use Rattle.std.proofs.Common.{◌≡◌, ◌∙◌, ◌+◌, ◌-◌, ◌++◌, true, false, sym, ap, subst, arith}
use Rattle.std.proofs.lemmas.Result.{err_from_is_err_and}
use Rattle.byte_streams.specs.Pending.{IsGathered}
use Rattle.byte_streams.proofs.GatheredTexts.{IsGathered-then}
use Rattle.tripos_machine.specs.Breakpoints.{Avoids}
use Rattle.tripos_machine.specs.State.{steps_of}
use Rattle.tripos_machine.specs.Step.{Stepped, run}
use Rattle.tripos_machine.proofs.RunParts.{gathered-none}
use Rattle.tripos_machine.proofs.StateRuns.{run-steps}
use Rattle.debugger.specs.Debugged.{steps_to}
use Rattle.debugger.specs.Views.{is_end}
use Rattle.debugger.proofs.EndedSteps.{cut-behind, end-goes}
use Rattle.debugger.proofs.StepsTo.{next-bytes, next-state, told-end, told-further, told-here, told-some, unended}
use Rattle.debugger.proofs.runs.take_steps_to.Goals as goal
use Rattle.tripos_machine.proofs.QuietSteps.{run-none}

pub loop-taken-init : goal.loop-taken-init
loop-taken-init g c =
    let s = c.args.machine.now.state in
    let whole : c.args.most - 0 ≡ c.args.most = omega arith in
    let same = ap (λ n. steps_to c.args.stops.now n s) whole in
    record {
      few = omega arith;
      state = sym (ap (λ (x : Stepped). x.state) (run-none s));
      told = omega (arith, same);
      text = gathered-none s _ _;
      goes = c.requires.goes;
      later = omega arith;
    }

pub advance-taken-requires-clause-steps : goal.advance-taken-requires-clause-steps
advance-taken-requires-clause-steps g c =
    let kept = c.loop-taken.invariant in
    omega (arith, c.requires.steps, c.loop-taken-test.true, ap steps_of kept.state, run-steps c.loop-taken.taken c.args.machine.now.state)

pub returns-in_err-gather-clause-state : goal.returns-in_err-gather-clause-state
returns-in_err-gather-clause-state g c =
    let kept = c.loop-taken.invariant in
    let m = c.advance-taken.result in
    let p = err_from_is_err_and c.from_residual.result c.from_residual.ensures.1 in
    rw p.1 (record {
      steps = c.loop-taken.taken + m;
      few = omega (arith, c.loop-taken-test.true, c.advance-taken.ensures.most);
      state = c.advance-taken.ensures.state ∙ next-state c.args.stops.now c.args.most c.loop-taken.taken m c.args.machine.now.state _ kept.state;
    })

pub returns-in_err-gather-clause-text : goal.returns-in_err-gather-clause-text
returns-in_err-gather-clause-text g c =
    let kept = c.loop-taken.invariant in
    let s = c.args.machine.now.state in
    let t = c.loop-taken.machine.state in
    let y = c.advance-taken.ensures in
    let stops = c.args.stops.now in
    let taken = c.loop-taken.taken in
    let m = c.advance-taken.result in
    let none = unended stops m t (subst (λ b. Avoids b m t) c.as_slice.ensures y.before) y.last in
    let p = err_from_is_err_and c.from_residual.result c.from_residual.ensures.1 in
    rw p.1 (cut-behind stops c.args.most taken m s t kept.state (told-some stops c.args.most taken m s t kept.state kept.told y.some y.most none) kept.text (c.output.ensures ∙ y.output) c.in_err-gather.ensures.text)

pub returns-then-is_end-clause-state : goal.returns-then-is_end-clause-state
returns-then-is_end-clause-state g c =
    let kept = c.loop-taken.invariant in
    let s = c.args.machine.now.state in
    let t = c.loop-taken.machine.state in
    let y = c.advance-taken.ensures in
    let stops = c.args.stops.now in
    let taken = c.loop-taken.taken in
    let m = c.advance-taken.result in
    let none = unended stops m t (subst (λ b. Avoids b m t) c.as_slice.ensures y.before) y.last in
    let there = subst (λ z. is_end stops z ≡ true) y.state (sym c.is_end.ensures ∙ c.if-is_end.true) in
    let steps = told-here stops c.args.most taken m s t kept.state kept.told y.some y.most none there in
    y.state ∙ next-state stops c.args.most taken m s t kept.state ∙ sym (ap (λ n. (run n s).state) steps)

pub returns-then-is_end-clause-text : goal.returns-then-is_end-clause-text
returns-then-is_end-clause-text g c =
    let holds = g.K.Sink.holds in
    let kept = c.loop-taken.invariant in
    let s = c.args.machine.now.state in
    let t = c.loop-taken.machine.state in
    let y = c.advance-taken.ensures in
    let stops = c.args.stops.now in
    let taken = c.loop-taken.taken in
    let m = c.advance-taken.result in
    let none = unended stops m t (subst (λ b. Avoids b m t) c.as_slice.ensures y.before) y.last in
    let there = subst (λ z. is_end stops z ≡ true) y.state (sym c.is_end.ensures ∙ c.if-is_end.true) in
    let steps = told-here stops c.args.most taken m s t kept.state kept.told y.some y.most none there in
    let bytes = ap (λ v. (run taken s).bytes ++ v) (c.output.ensures ∙ y.output) ∙ next-bytes stops c.args.most taken m s t kept.state ∙ sym (ap (λ n. (run n s).bytes) steps) in
    subst (IsGathered (holds c.args.out.now) (holds c.gather.new.out) c.args.pending.now c.gather.new.pending) bytes (IsGathered-then kept.text c.in_ok-gather.ensures.text)

pub loop-taken-preserved : goal.loop-taken-preserved
loop-taken-preserved g c =
    let holds = g.K.Sink.holds in
    let kept = c.loop-taken.invariant in
    let s = c.args.machine.now.state in
    let t = c.loop-taken.machine.state in
    let y = c.advance-taken.ensures in
    let stops = c.args.stops.now in
    let taken = c.loop-taken.taken in
    let m = c.advance-taken.result in
    let none = unended stops m t (subst (λ b. Avoids b m t) c.as_slice.ensures y.before) y.last in
    let other = subst (λ z. is_end stops z ≡ false) y.state (sym c.is_end.ensures ∙ c.if-is_end.false) in
    let further = told-further stops c.args.most taken m s t kept.state kept.told y.some y.most none other in
    let bytes = ap (λ v. (run taken s).bytes ++ v) (c.output.ensures ∙ y.output) ∙ next-bytes stops c.args.most taken m s t kept.state in
    record {
      few = omega (arith, c.loop-taken-test.true, y.most);
      state = y.state ∙ next-state stops c.args.most taken m s t kept.state;
      told = further ∙ ap (λ z. taken + m + steps_to stops (c.args.most - (taken + m)) z) (sym y.state);
      text = subst (IsGathered (holds c.args.out.now) (holds c.gather.new.out) c.args.pending.now c.gather.new.pending) bytes (IsGathered-then kept.text c.in_ok-gather.ensures.text);
      goes = λ few. end-goes stops c.advance-taken.new.self.state (sym c.is_end.ensures ∙ c.if-is_end.false);
      later = omega (arith, kept.later, c.in_ok-gather.ensures.cause.later);
    }

pub returns-clause-state : goal.returns-clause-state
returns-clause-state g c =
    let kept = c.loop-taken.invariant in
    let s = c.args.machine.now.state in
    let all : c.loop-taken.taken ≡ c.args.most = omega (arith, kept.few, c.loop-taken-test.false) in
    let steps = told-end c.args.stops.now c.args.most c.loop-taken.taken s _ kept.told all in
    kept.state ∙ sym (ap (λ n. (run n s).state) steps)

pub returns-clause-text : goal.returns-clause-text
returns-clause-text g c =
    let holds = g.K.Sink.holds in
    let kept = c.loop-taken.invariant in
    let s = c.args.machine.now.state in
    let all : c.loop-taken.taken ≡ c.args.most = omega (arith, kept.few, c.loop-taken-test.false) in
    let steps = told-end c.args.stops.now c.args.most c.loop-taken.taken s _ kept.told all in
    subst (λ v. IsGathered (holds c.args.out.now) (holds c.loop-taken.out) c.args.pending.now c.loop-taken.pending v) (sym (ap (λ n. (run n s).bytes) steps)) kept.text
