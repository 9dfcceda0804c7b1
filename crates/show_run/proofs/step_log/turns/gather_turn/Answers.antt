use Rattle.std.proofs.Common.{◌≡◌, ◌∙◌, ◌<◌, IfOk, ap, length, subst, sym}
use Rattle.byte_streams.specs.Pending.{Gathers}
use Rattle.byte_streams.proofs.GatheredTexts.{IsGathered-nothing}
use Rattle.kernel_model.specs.KernelRecord.Ranges.{most_steps}
use Rattle.tripos_machine.specs.State.{State, steps_of, words_of}
use Rattle.tripos_machine.specs.Step.{step}
use Rattle.show_run.specs.StepLog.StepLines.{before_seen, turn_lines}
use Rattle.show_run.proofs.StepLog.TurnLines.{turn-none}
use Rattle.show_run.proofs.step_log.turns.gather_turn.Goals as goal

pub returns-then-take_quiet_step-clause-text : goal.returns-then-take_quiet_step-clause-text
returns-then-take_quiet_step-clause-text g c =
    let s = c.args.machine.now.state in
    let q = c.take_quiet_step.ensures in
    let t = c.if-take_quiet_step.true in
    rw (turn-none c.args.m (before_seen c.args.before) s (step s) (q.quiet t) (q.uncalled t) (q.guest t)) (IsGathered-nothing _ _)

pub gather_full_turn-requires-clause-steps : goal.gather_full_turn-requires-clause-steps
gather_full_turn-requires-clause-steps g c = subst (λ (s : State). steps_of s < most_steps) (sym (c.take_quiet_step.ensures.stays c.if-take_quiet_step.false)) c.requires.steps

pub gather_full_turn-requires-clause-size : goal.gather_full_turn-requires-clause-size
gather_full_turn-requires-clause-size g c = c.requires.size ∙ ap (λ (s : State). length (words_of s)) (sym (c.take_quiet_step.ensures.stays c.if-take_quiet_step.false))

pub returns-clause-text : goal.returns-clause-text
returns-clause-text g c =
    let holds = g.K.Sink.holds in
    let end = c.gather_full_turn in
    subst (λ (s : State). Gathers (holds c.args.out.now) (holds end.new.out) c.args.pending.now end.new.pending (turn_lines c.args.m (before_seen c.args.before) s (step s)) end.result)
    (c.take_quiet_step.ensures.stays c.if-take_quiet_step.false) end.ensures.text

pub returns-clause-state : goal.returns-clause-state
returns-clause-state g c =
    subst (λ (s : State). IfOk c.gather_full_turn.result (λ _. c.gather_full_turn.new.machine.state ≡ (step s).state)) (c.take_quiet_step.ensures.stays c.if-take_quiet_step.false)
    c.gather_full_turn.ensures.state

pub returns-clause-output : goal.returns-clause-output
returns-clause-output g c =
    subst (λ (s : State). IfOk c.gather_full_turn.result (λ _. c.gather_full_turn.new.machine.output ≡ (step s).bytes)) (c.take_quiet_step.ensures.stays c.if-take_quiet_step.false)
    c.gather_full_turn.ensures.output
