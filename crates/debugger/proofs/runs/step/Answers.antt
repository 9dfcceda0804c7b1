use Rattle.std.proofs.Common.{◌∙◌, ◌≤◌, min, ap, subst, arith}
use Rattle.std.proofs.lemmas.Result.{err_from_is_err_and}
use Rattle.byte_streams.specs.Pending.{Gathers, IsCut}
use Rattle.byte_streams.proofs.GatheredTexts.{IsCut-more}
use Rattle.tripos_machine.specs.State.{steps_of}
use Rattle.tripos_machine.proofs.StateRuns.{run-later}
use Rattle.debugger.specs.Debugged.{steps_left, steps_text}
use Rattle.debugger.proofs.DebuggedRuns.{debugged-more, left-few}
use Rattle.debugger.proofs.EndedSteps.{text-then}
use Rattle.debugger.proofs.runs.step.Goals as goal

pub take_steps-requires : goal.take_steps-requires
take_steps-requires g c =
    let w = c.requires in
    omega (arith, c.min-steps.ensures, c.steps_left.ensures, left-few c.args.limits c.args.machine.now.state, w.short, w.most)

pub returns-in_err-take_steps-clause-state : goal.returns-in_err-take_steps-clause-state
returns-in_err-take_steps-clause-state g c =
    let p = err_from_is_err_and c.from_residual.result c.from_residual.ensures.1 in
    let few : c.min-steps.result ≤ steps_left c.args.limits c.args.machine.now.state = omega (arith, c.min-steps.ensures, c.steps_left.ensures) in
    rw p.1 (debugged-more c.min-steps.result (steps_left c.args.limits c.args.machine.now.state) c.args.machine.now.state _ few c.in_err-take_steps.ensures.state)

pub returns-in_err-take_steps-clause-text : goal.returns-in_err-take_steps-clause-text
returns-in_err-take_steps-clause-text g c =
    let holds = g.K.Sink.holds in
    let s = c.args.machine.now.state in
    let p = err_from_is_err_and c.from_residual.result c.from_residual.ensures.1 in
    let same = c.min-steps.ensures ∙ ap (min c.args.n) c.steps_left.ensures in
    rw p.1 (subst (λ n. IsCut (holds c.args.out.now) (holds c.take_steps.new.out) c.args.pending.now (steps_text c.args.limits n s)) same (IsCut-more _ c.in_err-take_steps.ensures.text))

pub gather_place-requires : goal.gather_place-requires
gather_place-requires g c = omega (arith, c.requires.begun, ap steps_of c.in_ok-take_steps.ensures.state, run-later c.min-steps.result c.args.machine.now.state)

pub returns-clause-text : goal.returns-clause-text
returns-clause-text g c =
    let holds = g.K.Sink.holds in
    let s = c.args.machine.now.state in
    let end = c.gather_place in
    let same = c.min-steps.ensures ∙ ap (min c.args.n) c.steps_left.ensures in
    subst (λ n. Gathers (holds c.args.out.now) (holds end.new.out) c.args.pending.now end.new.pending (steps_text c.args.limits n s) end.result) same
    (text-then c.args.limits c.min-steps.result s _ _ _ end.result c.in_ok-take_steps.ensures.state c.in_ok-take_steps.ensures.text end.ensures.text)
