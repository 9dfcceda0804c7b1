use Rattle.std.proofs.Common.{◌∙◌, Some, ap, sym}
use Rattle.tripos_run.specs.InputAnswers.{generated_answer}
use Rattle.program_answers.proofs.AnswerParts.{Answers-any}
use Rattle.tripos_run.proofs.AnswerParts.{Answers-job, Answers-usage}
use Rattle.tripos_run.proofs.program.tripos.Goals as goal

pub returns-in-Some-Generate-clause-answer : goal.returns-in-Some-Generate-clause-answer
returns-in-Some-Generate-clause-answer g c =
    Answers-job _ _ _ _ (sym c.job_of.ensures ∙ (c.in-Some-Generate.is ∙ ap Some c.in-Some-Generate.field-0-is)) (Answers-any (generated_answer c.in-Some-Generate.n) _ _ _ _ c.answer_generated.ensures.answer)

pub returns-in-None-clause-answer : goal.returns-in-None-clause-answer
returns-in-None-clause-answer g c =
    rw c.status_after.ensures (Answers-usage _ _ _ _ c.write_usage.result (sym c.job_of.ensures ∙ c.in-None.is) c.write_usage.ensures.text)
