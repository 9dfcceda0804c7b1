use Rattle.std.proofs.Common.{subst}
use Rattle.session_text.specs.SessionOfText.{session_of}
use Rattle.module_text.specs.TextReader.Answers.{EndsAs}
use Rattle.module_text.specs.TextReader.Refusal.{refusal}
use Rattle.program_answers.proofs.AnswerParts.{Answers-refused}
use Rattle.show_run.proofs.value_tries.answers.answer_session_text.Goals as goal

pub returns-in-Err-Bad-clause-answer : goal.returns-in-Err-Bad-clause-answer
returns-in-Err-Bad-clause-answer g c =
    let read = subst (λ e. EndsAs e (session_of c.args.text.now)) c.in-Err-Bad.field-0-is c.in-Err-Bad.ensures.value in
    rw (read, c.status_after.ensures) (Answers-refused (refusal c.in-Err-Bad.line c.in-Err-Bad.code) _ _ c.write_refused.result (rw (← c.in-Err-Bad.line-is, ← c.in-Err-Bad.code-is) c.write_refused.ensures.text))
