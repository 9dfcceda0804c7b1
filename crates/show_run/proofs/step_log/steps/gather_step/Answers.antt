use Rattle.std.proofs.Common.{◌≡◌, ◌∙◌, Result, Ok, Err, IfOk, ap, length, subst, sym}
use Rattle.std.proofs.lemmas.Result.{err_from_is_err_and}
use Rattle.byte_streams.specs.declared.sink.SinkFault.{SinkFault}
use Rattle.byte_streams.specs.Pending.{Gathers}
use Rattle.byte_streams.proofs.GatheredTexts.{Gathers-then, IsCut-more, IsCut-then}
use Rattle.tripos_machine.specs.State.{State, words_of}
use Rattle.tripos_machine.specs.Step.{step}
use Rattle.tripos_machine.proofs.StepSizes.{step-size}
use Rattle.show_run.specs.StepLog.StepLines.{before_seen, lines_after}
use Rattle.show_run.proofs.StepLog.SteppedLines.{AreOf, rest_of, step-parts}
use Rattle.show_run.proofs.step_log.steps.gather_step.Goals as goal

pub returns-in_err-gather_before-clause-text : goal.returns-in_err-gather_before-clause-text
returns-in_err-gather_before-clause-text g c =
    let s = c.args.machine.now.state in
    let x = step s in
    let is : AreOf s c.moment-m.result (before_seen c.known_before-before.result) = record { moment = c.moment-m.ensures; before = c.known_before-before.ensures } in
    let p = err_from_is_err_and c.from_residual.result c.from_residual.ensures.1 in
    rw (p.1, step-parts is x) (IsCut-more (rest_of is x) c.in_err-gather_before.ensures.text)

pub returns-in_err-gather_turn-clause-text : goal.returns-in_err-gather_turn-clause-text
returns-in_err-gather_turn-clause-text g c =
    let s = c.args.machine.now.state in
    let x = step s in
    let m = c.moment-m.result in
    let b = before_seen c.known_before-before.result in
    let is : AreOf s m b = record { moment = c.moment-m.ensures; before = c.known_before-before.ensures } in
    let p = err_from_is_err_and c.from_residual-in_err-gather_turn.result c.from_residual-in_err-gather_turn.ensures.1 in
    rw (p.1, step-parts is x) (IsCut-then c.in_ok-gather_before.ensures.text (IsCut-more (lines_after m b x.bytes x.state) c.in_err-gather_turn.ensures.text))

pub returns-clause-text : goal.returns-clause-text
returns-clause-text g c =
    let holds = g.K.Sink.holds in
    let s = c.args.machine.now.state in
    let x = step s in
    let m = c.moment-m.result in
    let b = before_seen c.known_before-before.result in
    let is : AreOf s m b = record { moment = c.moment-m.ensures; before = c.known_before-before.ensures } in
    let end = c.gather_after in
    let turn = c.in_ok-gather_turn.ensures in
    let last = subst (λ bytes. Gathers (holds c.gather_turn.new.out) (holds end.new.out) c.gather_turn.new.pending end.new.pending (lines_after m b bytes x.state) end.result) turn.output
    (subst (λ t. Gathers (holds c.gather_turn.new.out) (holds end.new.out) c.gather_turn.new.pending end.new.pending (lines_after m b c.gather_turn.new.machine.output t) end.result) turn.state end.ensures.text) in
    rw (step-parts is x)
    (Gathers-then c.in_ok-gather_before.ensures.text (holds end.new.out) end.new.pending (rest_of is x) end.result
    (Gathers-then turn.text (holds end.new.out) end.new.pending (lines_after m b x.bytes x.state) end.result last))

-- what holds however it ends
always : {P : Type 0} (r : Result Unit SinkFault) → P → IfOk r (λ _. P)
always (Ok t) p = p
always (Err e) p = tt

pub returns-clause-size : goal.returns-clause-size
returns-clause-size g c =
    let s = c.args.machine.now.state in
    let now : length c.gather_turn.new.former ≡ length (words_of c.gather_turn.new.machine.state) =
    c.in_ok-gather_turn.ensures.size ∙ c.requires.size ∙ sym (step-size s c.know_sound.ensures) ∙ ap (λ (t : State). length (words_of t)) (sym c.in_ok-gather_turn.ensures.state) in
    always c.gather_after.result now
