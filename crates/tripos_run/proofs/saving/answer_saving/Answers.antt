use Rattle.std.proofs.Common.{◌≡◌, Result, refl, subst, sym}
use Rattle.module_text.specs.TextReader.Answers.{EndsAs}
use Rattle.module_text.specs.TextReader.Refusal.{Refusal, refusal}
use Rattle.session_text.specs.SessionOfText.{session_of}
use Rattle.session_text.specs.declared.sessions.Session.{Session}
use Rattle.program_answers.specs.Answer.{refused_answer}
use Rattle.program_answers.specs.Answered.{Answered}
use Rattle.tripos_run.specs.SavedAnswers.{IsSaved}
use Rattle.program_answers.specs.declared.status.Status.TheVariants.{Refused}
use Rattle.program_answers.proofs.AnswerParts.{Answered-by, Answers-refused, status_after}
use Rattle.tripos_run.proofs.saving.answer_saving.Goals as goal

pub returns-in-Ok-clause-answer : goal.returns-in-Ok-clause-answer
returns-in-Ok-clause-answer g c =
    let holds = g.K.Sink.holds in
    subst (λ (r : Result Session Refusal). Answered (IsSaved r) (holds c.args.out.now) (holds c.save_session.new.out) c.save_session.result) (sym c.in-Ok.ensures.value) c.save_session.ensures.answer

pub returns-in-Err-Bad-clause-answer : goal.returns-in-Err-Bad-clause-answer
returns-in-Err-Bad-clause-answer g c =
    let r = refusal c.in-Err-Bad.line c.in-Err-Bad.code in
    let read = subst (λ e. EndsAs e (session_of c.args.text.now)) c.in-Err-Bad.field-0-is c.in-Err-Bad.ensures.value in
    let holds = g.K.Sink.holds in
    let refused : Answered (λ a. a ≡ refused_answer r) (holds c.args.out.now) (holds c.write_refused.new.out) c.status_after.result =
    rw c.status_after.ensures
    (Answered-by (λ a. a ≡ refused_answer r) (refused_answer r) refl _ _ (status_after c.write_refused.result Refused)
    (Answers-refused r _ _ c.write_refused.result (rw (← c.in-Err-Bad.line-is, ← c.in-Err-Bad.code-is) c.write_refused.ensures.text)))
    in
    subst (λ (x : Result Session Refusal). Answered (IsSaved x) (holds c.args.out.now) (holds c.write_refused.new.out) c.status_after.result) (sym read) refused
