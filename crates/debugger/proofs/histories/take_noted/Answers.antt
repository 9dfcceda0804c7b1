use Rattle.std.proofs.Common.{◌≡◌, ◌∙◌, ◌+◌, ◌-◌, ◌++◌, true, false, refl, sym, ap, subst, arith}
use Rattle.std.proofs.lemmas.Result.{err_from_is_err_and}
use Rattle.debugger.specs.MachineHistory.Pasts.{remembered}
use Rattle.byte_streams.specs.Pending.{IsGathered}
use Rattle.byte_streams.proofs.GatheredTexts.{IsGathered-then}
use Rattle.tripos_machine.specs.State.{steps_of}
use Rattle.tripos_machine.specs.Step.{Stepped, run}
use Rattle.tripos_machine.proofs.RunParts.{gathered-none}
use Rattle.tripos_machine.proofs.StateRuns.{run-steps}
use Rattle.debugger.specs.Debugged.{past_after, steps_to}
use Rattle.debugger.specs.Views.{is_end}
use Rattle.debugger.proofs.EndedSteps.{cut-behind, end-goes}
use Rattle.debugger.proofs.PastSteps.{past-more}
use Rattle.debugger.proofs.StepsTo.{next-bytes, next-state, one-bytes, one-state, one-unended, told-end, told-further, told-here, told-some}
use Rattle.debugger.proofs.histories.take_noted.Goals as goal
use Rattle.tripos_machine.proofs.QuietSteps.{run-none}

pub loop-taken-init : goal.loop-taken-init
loop-taken-init g c =
    let s = c.args.machine.now.state in
    let whole : c.args.most - 0 ≡ c.args.most = omega arith in
    let same = ap (λ n. steps_to c.args.stops.now n s) whole in
    record {
      few = omega arith;
      state = sym (ap (λ (x : Stepped). x.state) (run-none s));
      told = omega (arith, same);
      text = gathered-none s _ _;
      goes = c.requires.goes;
      past = refl;
      now = c.requires.now;
      later = omega arith;
    }

pub step-requires-clause-steps : goal.step-requires-clause-steps
step-requires-clause-steps g c =
    let kept = c.loop-taken.invariant in
    omega (arith, c.requires.steps, c.loop-taken-test.true, ap steps_of kept.state, run-steps c.loop-taken.taken c.args.machine.now.state)

pub returns-in_err-gather-clause-state : goal.returns-in_err-gather-clause-state
returns-in_err-gather-clause-state g c =
    let kept = c.loop-taken.invariant in
    let s = c.args.machine.now.state in
    let t = c.loop-taken.machine.state in
    let p = err_from_is_err_and c.from_residual.result c.from_residual.ensures.1 in
    rw p.1 (record {
      steps = c.loop-taken.taken + 1;
      few = omega (arith, c.loop-taken-test.true);
      state = c.step.ensures.state ∙ one-state t ∙ next-state c.args.stops.now c.args.most c.loop-taken.taken 1 s t kept.state;
    })

pub returns-in_err-gather-clause-text : goal.returns-in_err-gather-clause-text
returns-in_err-gather-clause-text g c =
    let kept = c.loop-taken.invariant in
    let s = c.args.machine.now.state in
    let t = c.loop-taken.machine.state in
    let stops = c.args.stops.now in
    let taken = c.loop-taken.taken in
    let more = told-some stops c.args.most taken 1 s t kept.state kept.told (omega arith) (omega (arith, c.loop-taken-test.true)) (one-unended stops t) in
    let p = err_from_is_err_and c.from_residual.result c.from_residual.ensures.1 in
    rw p.1 (cut-behind stops c.args.most taken 1 s t kept.state more kept.text (c.output.ensures ∙ c.step.ensures.output ∙ one-bytes t) c.in_err-gather.ensures.text)

pub returns-then-is_end-clause-state : goal.returns-then-is_end-clause-state
returns-then-is_end-clause-state g c =
    let kept = c.loop-taken.invariant in
    let s = c.args.machine.now.state in
    let t = c.loop-taken.machine.state in
    let stops = c.args.stops.now in
    let taken = c.loop-taken.taken in
    let state = c.step.ensures.state ∙ one-state t in
    let there = subst (λ z. is_end stops z ≡ true) state (sym c.is_end.ensures ∙ c.if-is_end.true) in
    let steps = told-here stops c.args.most taken 1 s t kept.state kept.told (omega arith) (omega (arith, c.loop-taken-test.true)) (one-unended stops t) there in
    state ∙ next-state stops c.args.most taken 1 s t kept.state ∙ sym (ap (λ n. (run n s).state) steps)

pub returns-then-is_end-clause-text : goal.returns-then-is_end-clause-text
returns-then-is_end-clause-text g c =
    let holds = g.K.Sink.holds in
    let kept = c.loop-taken.invariant in
    let s = c.args.machine.now.state in
    let t = c.loop-taken.machine.state in
    let stops = c.args.stops.now in
    let taken = c.loop-taken.taken in
    let there = subst (λ z. is_end stops z ≡ true) (c.step.ensures.state ∙ one-state t) (sym c.is_end.ensures ∙ c.if-is_end.true) in
    let steps = told-here stops c.args.most taken 1 s t kept.state kept.told (omega arith) (omega (arith, c.loop-taken-test.true)) (one-unended stops t) there in
    let bytes = ap (λ v. (run taken s).bytes ++ v) (c.output.ensures ∙ c.step.ensures.output ∙ one-bytes t) ∙ next-bytes stops c.args.most taken 1 s t kept.state ∙ sym (ap (λ n. (run n s).bytes) steps) in
    subst (IsGathered (holds c.args.out.now) (holds c.gather.new.out) c.args.pending.now c.gather.new.pending) bytes (IsGathered-then kept.text c.in_ok-gather.ensures.text)

pub returns-then-is_end-clause-past : goal.returns-then-is_end-clause-past
returns-then-is_end-clause-past g c =
    let kept = c.loop-taken.invariant in
    let s = c.args.machine.now.state in
    let t = c.loop-taken.machine.state in
    let stops = c.args.stops.now in
    let taken = c.loop-taken.taken in
    let past = c.args.history.now.past in
    let there = subst (λ z. is_end stops z ≡ true) (c.step.ensures.state ∙ one-state t) (sym c.is_end.ensures ∙ c.if-is_end.true) in
    let steps = told-here stops c.args.most taken 1 s t kept.state kept.told (omega arith) (omega (arith, c.loop-taken-test.true)) (one-unended stops t) there in
    c.step.ensures.past ∙ ap (λ p. remembered p t c.step.new.machine.state) kept.past
    ∙ past-more taken past s t c.step.new.machine.state kept.state (kept.goes c.loop-taken-test.true) c.step.ensures.state ∙ sym (ap (λ n. past_after n past s) steps)

pub loop-taken-preserved : goal.loop-taken-preserved
loop-taken-preserved g c =
    let holds = g.K.Sink.holds in
    let kept = c.loop-taken.invariant in
    let s = c.args.machine.now.state in
    let t = c.loop-taken.machine.state in
    let stops = c.args.stops.now in
    let taken = c.loop-taken.taken in
    let state = c.step.ensures.state ∙ one-state t in
    let other = subst (λ z. is_end stops z ≡ false) state (sym c.is_end.ensures ∙ c.if-is_end.false) in
    let further = told-further stops c.args.most taken 1 s t kept.state kept.told (omega arith) (omega (arith, c.loop-taken-test.true)) (one-unended stops t) other in
    let bytes = ap (λ v. (run taken s).bytes ++ v) (c.output.ensures ∙ c.step.ensures.output ∙ one-bytes t) ∙ next-bytes stops c.args.most taken 1 s t kept.state in
    record {
      few = omega (arith, c.loop-taken-test.true);
      state = state ∙ next-state stops c.args.most taken 1 s t kept.state;
      told = further ∙ ap (λ z. taken + 1 + steps_to stops (c.args.most - (taken + 1)) z) (sym state);
      text = subst (IsGathered (holds c.args.out.now) (holds c.gather.new.out) c.args.pending.now c.gather.new.pending) bytes (IsGathered-then kept.text c.in_ok-gather.ensures.text);
      goes = λ few. end-goes stops c.step.new.machine.state (sym c.is_end.ensures ∙ c.if-is_end.false);
      past = c.step.ensures.past ∙ ap (λ p. remembered p t c.step.new.machine.state) kept.past ∙ past-more taken c.args.history.now.past s t c.step.new.machine.state kept.state (kept.goes c.loop-taken-test.true) c.step.ensures.state;
      now = c.step.ensures.now;
      later = omega (arith, kept.later, c.in_ok-gather.ensures.cause.later);
    }

pub returns-clause-state : goal.returns-clause-state
returns-clause-state g c =
    let kept = c.loop-taken.invariant in
    let s = c.args.machine.now.state in
    let all : c.loop-taken.taken ≡ c.args.most = omega (arith, kept.few, c.loop-taken-test.false) in
    let steps = told-end c.args.stops.now c.args.most c.loop-taken.taken s _ kept.told all in
    kept.state ∙ sym (ap (λ n. (run n s).state) steps)

pub returns-clause-text : goal.returns-clause-text
returns-clause-text g c =
    let holds = g.K.Sink.holds in
    let kept = c.loop-taken.invariant in
    let s = c.args.machine.now.state in
    let all : c.loop-taken.taken ≡ c.args.most = omega (arith, kept.few, c.loop-taken-test.false) in
    let steps = told-end c.args.stops.now c.args.most c.loop-taken.taken s _ kept.told all in
    subst (λ v. IsGathered (holds c.args.out.now) (holds c.loop-taken.out) c.args.pending.now c.loop-taken.pending v) (sym (ap (λ n. (run n s).bytes) steps)) kept.text

pub returns-clause-past : goal.returns-clause-past
returns-clause-past g c =
    let kept = c.loop-taken.invariant in
    let s = c.args.machine.now.state in
    let all : c.loop-taken.taken ≡ c.args.most = omega (arith, kept.few, c.loop-taken-test.false) in
    let steps = told-end c.args.stops.now c.args.most c.loop-taken.taken s _ kept.told all in
    kept.past ∙ sym (ap (λ n. past_after n c.args.history.now.past s) steps)
