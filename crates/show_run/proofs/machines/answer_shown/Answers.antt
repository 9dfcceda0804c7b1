use Rattle.std.proofs.Common.{refl}
use Rattle.program_answers.proofs.AnswerParts.{Answers-done}
use Rattle.show_run.specs.ShownAnswers.{shown_answer, shown_state, writes_of}
use Rattle.show_run.proofs.machines.answer_shown.Goals as goal

pub returns-in-State-clause-answer : goal.returns-in-State-clause-answer
returns-in-State-clause-answer g c =
    let s = c.args.machine.now.state in
    rw (c.in-State.is, c.status_after.ensures) (Answers-done (shown_answer (shown_state c.args.programs.now c.args.go s)) _ _ c.show_state-shown.result refl c.show_state-shown.ensures.text)

pub returns-in-Writes-clause-answer : goal.returns-in-Writes-clause-answer
returns-in-Writes-clause-answer g c =
    let s = c.args.machine.now.state in
    let w = c.in-Writes in
    rw (w.is, c.status_after-in-Writes.ensures) (Answers-done (shown_answer (writes_of w.address w.first w.last c.args.go s)) _ _ c.show_writes-shown.result refl c.show_writes-shown.ensures.text)
