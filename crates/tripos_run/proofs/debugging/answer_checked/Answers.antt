use Rattle.module_text.specs.TextReader.Refusal.{refusal}
use Rattle.program_answers.proofs.AnswerParts.{Answers-refused}
use Rattle.tripos_run.proofs.debugging.answer_checked.Goals as goal

pub returns-in-Ok-clause-answer : goal.returns-in-Ok-clause-answer
returns-in-Ok-clause-answer g c = rw c.in-Ok.ensures c.answer_lines.ensures.answer

pub returns-in-Err-clause-answer : goal.returns-in-Err-clause-answer
returns-in-Err-clause-answer g c =
    let bad = c.in-Err.field-0 in
    rw (c.in-Err.ensures, c.status_after.ensures) (Answers-refused (refusal bad.line bad.code) _ _ c.write_refused.result c.write_refused.ensures.text)
