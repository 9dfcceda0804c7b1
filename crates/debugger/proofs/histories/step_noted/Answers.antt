use Rattle.std.proofs.Common.{◌∙◌, ◌≤◌, min, ap, subst, arith}
use Rattle.std.proofs.lemmas.Result.{err_from_is_err_and}
use Rattle.byte_streams.specs.Pending.{Gathers, IsCut, IsGathered}
use Rattle.byte_streams.proofs.GatheredTexts.{IsCut-more}
use Rattle.tripos_machine.specs.State.{steps_of}
use Rattle.tripos_machine.specs.Step.{Stepped, run}
use Rattle.tripos_machine.proofs.StateRuns.{run-later}
use Rattle.debugger.specs.Debugged.{past_after, steps_left, steps_text, steps_to}
use Rattle.debugger.proofs.EndedSteps.{ends-all, if-held, text-then}
use Rattle.debugger.proofs.PastSteps.{past-all}
use Rattle.debugger.proofs.StepsTo.{to-all}
use Rattle.debugger.proofs.histories.step_noted.Goals as goal

pub returns-in_err-take_noted-clause-text : goal.returns-in_err-take_noted-clause-text
returns-in_err-take_noted-clause-text g c =
    let holds = g.K.Sink.holds in
    let s = c.args.machine.now.state in
    let m = c.min-steps.result in
    let p = err_from_is_err_and c.from_residual.result c.from_residual.ensures.1 in
    let same = c.min-steps.ensures ∙ ap (min c.args.n) c.steps_left.ensures in
    let bytes = ap (λ stops. (run (steps_to stops m s) s).bytes) c.new.ensures ∙ ap (λ (x : Stepped). x.bytes) (to-all m s) in
    rw p.1
    (subst (λ n. IsCut (holds c.args.out.now) (holds c.take_noted.new.out) c.args.pending.now (steps_text c.args.limits n s)) same
    (IsCut-more _ (subst (IsCut (holds c.args.out.now) (holds c.take_noted.new.out) c.args.pending.now) bytes c.in_err-take_noted.ensures.text)))

pub gather_place-requires : goal.gather_place-requires
gather_place-requires g c =
    let s = c.args.machine.now.state in
    omega (arith, c.requires.within.begun, ap steps_of c.in_ok-take_noted.ensures.state, run-later (steps_to c.new.result c.min-steps.result s) s)

pub returns-clause-state : goal.returns-clause-state
returns-clause-state g c =
    let s = c.args.machine.now.state in
    let m = c.min-steps.result in
    let left = steps_left c.args.limits s in
    let same = c.min-steps.ensures ∙ ap (min c.args.n) c.steps_left.ensures in
    let few : min c.args.n left ≤ left = omega arith in
    ends-all (min c.args.n left) left s c.take_noted.new.machine.state c.gather_place.result few
    (c.in_ok-take_noted.ensures.state ∙ ap (λ stops. (run (steps_to stops m s) s).state) c.new.ensures ∙ ap (λ (x : Stepped). x.state) (to-all m s) ∙ ap (λ n. (run n s).state) same)

pub returns-clause-text : goal.returns-clause-text
returns-clause-text g c =
    let holds = g.K.Sink.holds in
    let s = c.args.machine.now.state in
    let m = c.min-steps.result in
    let end = c.gather_place in
    let same = c.min-steps.ensures ∙ ap (min c.args.n) c.steps_left.ensures in
    let state = c.in_ok-take_noted.ensures.state ∙ ap (λ stops. (run (steps_to stops m s) s).state) c.new.ensures ∙ ap (λ (x : Stepped). x.state) (to-all m s) in
    let bytes = ap (λ stops. (run (steps_to stops m s) s).bytes) c.new.ensures ∙ ap (λ (x : Stepped). x.bytes) (to-all m s) in
    subst (λ n. Gathers (holds c.args.out.now) (holds end.new.out) c.args.pending.now end.new.pending (steps_text c.args.limits n s) end.result) same
    (text-then c.args.limits m s _ _ _ end.result state (subst (IsGathered (holds c.args.out.now) (holds c.take_noted.new.out) c.args.pending.now c.take_noted.new.pending) bytes c.in_ok-take_noted.ensures.text) end.ensures.text)

pub returns-clause-past : goal.returns-clause-past
returns-clause-past g c =
    let s = c.args.machine.now.state in
    let m = c.min-steps.result in
    let past = c.args.history.now.past in
    let same = c.min-steps.ensures ∙ ap (min c.args.n) c.steps_left.ensures in
    if-held c.gather_place.result _
    (c.in_ok-take_noted.ensures.past ∙ ap (λ stops. past_after (steps_to stops m s) past s) c.new.ensures ∙ past-all m past s ∙ ap (λ n. past_after n past s) same)
