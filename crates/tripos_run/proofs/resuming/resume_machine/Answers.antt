use Rattle.std.proofs.Common.{◌≡◌, ◌∙◌, ◌-◌, ap, arith, refl}
use Rattle.byte_streams.proofs.GatheredTexts.{IsCut-first}
use Rattle.tripos_machine.specs.Runs.{end_of_run}
use Rattle.tripos_machine.specs.State.{State, steps_of, stop_of, words_of}
use Rattle.tripos_machine.specs.Step.{run}
use Rattle.tripos_machine.proofs.StateRuns.{run-later}
use Rattle.tripos_run.specs.Answer.{end_since}
use Rattle.tripos_run.specs.declared.reports.Report.TheVariants.{Console}
use Rattle.tripos_run.proofs.AnswerParts.{Answers-closed, AppendsPrefix-closed, Prints-first}
use Rattle.tripos_run.proofs.resuming.resume_machine.Goals as goal

pub returns-in-Err-clause-answer : goal.returns-in-Err-clause-answer
returns-in-Err-clause-answer g c =
    let s = c.args.machine.now.state in
    let x = run c.args.go s in
    AppendsPrefix-closed Console (end_since (steps_of s) x) x.bytes _ _ (IsCut-first c.new-pending.ensures c.in-Err.ensures.bytes)

pub overflow_sub-steps : goal.overflow_sub-steps
overflow_sub-steps g c =
    let s = c.args.machine.now.state in
    omega (arith, c.steps-before.ensures, c.steps.ensures, ap steps_of c.in-Ok.ensures.end.0.state, run-later c.args.go s)

pub returns-clause-answer : goal.returns-clause-answer
returns-clause-answer g c =
    let s = c.args.machine.now.state in
    let x = run c.args.go s in
    let left = c.in-Ok.ensures.end.0.state in
    let steps : c.steps.result - c.steps-before.result ≡ steps_of x.state - steps_of s = rw (c.steps.ensures, c.steps-before.ensures, left) refl in
    rw (c.status_after.ensures, c.status_of.ensures)
    (Answers-closed Console (end_since (steps_of s) x) x.bytes _ _ c.write_end-end.result
    (record { steps_are = steps; stop_is = c.in-Ok.ensures.end.1 ∙ ap (λ (t : State). end_of_run (stop_of t)) left; words_are = c.store.ensures ∙ ap words_of left })
    (Prints-first _ _ c.write_end-end.result c.new-pending.ensures c.in-Ok.ensures.bytes c.write_end-end.ensures.text))
