use Rattle.std.proofs.Common.{◌∙◌, ap, subst, arith}
use Rattle.std.proofs.lemmas.Result.{err_from_is_err_and}
use Rattle.byte_streams.specs.Pending.{Gathers, IsCut}
use Rattle.byte_streams.proofs.GatheredTexts.{IsCut-more}
use Rattle.tripos_machine.specs.State.{steps_of}
use Rattle.tripos_machine.specs.Step.{run}
use Rattle.tripos_machine.proofs.StateRuns.{run-later}
use Rattle.debugger.specs.Debugged.{steps_left, steps_text, steps_to}
use Rattle.debugger.proofs.EndedSteps.{ends-all, text-then}
use Rattle.debugger.proofs.StepsTo.{to-most}
use Rattle.debugger.proofs.histories.go_on_noted.Goals as goal

pub returns-in_err-take_noted-clause-text : goal.returns-in_err-take_noted-clause-text
returns-in_err-take_noted-clause-text g c =
    let holds = g.K.Sink.holds in
    let s = c.args.machine.now.state in
    let p = err_from_is_err_and c.from_residual.result c.from_residual.ensures.1 in
    let same = ap (λ most. steps_to c.args.stops.now most s) c.steps_left-most.ensures in
    rw p.1 (subst (λ n. IsCut (holds c.args.out.now) (holds c.take_noted.new.out) c.args.pending.now (steps_text c.args.limits n s)) same (IsCut-more _ c.in_err-take_noted.ensures.text))

pub gather_place-requires : goal.gather_place-requires
gather_place-requires g c =
    let s = c.args.machine.now.state in
    omega (arith, c.requires.within.begun, ap steps_of c.in_ok-take_noted.ensures.state, run-later (steps_to c.args.stops.now c.steps_left-most.result s) s)

pub returns-clause-state : goal.returns-clause-state
returns-clause-state g c =
    let s = c.args.machine.now.state in
    let left = steps_left c.args.limits s in
    let same = ap (λ most. steps_to c.args.stops.now most s) c.steps_left-most.ensures in
    ends-all (steps_to c.args.stops.now left s) left s _ c.gather_place.result (to-most c.args.stops.now left s) (c.in_ok-take_noted.ensures.state ∙ ap (λ n. (run n s).state) same)

pub returns-clause-text : goal.returns-clause-text
returns-clause-text g c =
    let holds = g.K.Sink.holds in
    let s = c.args.machine.now.state in
    let end = c.gather_place in
    let same = ap (λ most. steps_to c.args.stops.now most s) c.steps_left-most.ensures in
    subst (λ n. Gathers (holds c.args.out.now) (holds end.new.out) c.args.pending.now end.new.pending (steps_text c.args.limits n s) end.result) same
    (text-then c.args.limits (steps_to c.args.stops.now c.steps_left-most.result s) s _ _ _ end.result c.in_ok-take_noted.ensures.state c.in_ok-take_noted.ensures.text end.ensures.text)
