use Rattle.std.proofs.Common.{refl}
use Rattle.program_answers.proofs.AnswerParts.{Answers-done}
use Rattle.show_run.specs.ValueTries.TriesAnswers.{session_answer}
use Rattle.show_run.specs.ValueTries.TryWords.{asked}
use Rattle.show_run.proofs.value_tries.answers.answer_session.Goals as goal

pub returns-in-Ok-clause-answer : goal.returns-in-Ok-clause-answer
returns-in-Ok-clause-answer g c =
    rw c.status_after.ensures
    (Answers-done (session_answer (asked c.args.setting c.args.spans.now) c.args.session.now) _ _ c.write_gathering.result refl
    (rw (← c.in-Ok.ensures.groups, ← c.in-Ok.ensures.tried) c.write_gathering.ensures.text))
