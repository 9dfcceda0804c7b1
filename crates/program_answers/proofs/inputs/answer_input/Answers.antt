use Rattle.std.proofs.Common.{Err, ap}
use Rattle.program_answers.proofs.AnswerParts.{Answers-nothing, Answers-text, Answers-too_long}
use Rattle.program_answers.proofs.inputs.answer_input.Goals as goal

pub returns-in-Ok-clause-answer : goal.returns-in-Ok-clause-answer
returns-in-Ok-clause-answer g c =
    Answers-text _ _ _ _ _ _ _ _ c.in-Ok.ensures.taken c.in-Ok.ensures.end c.in-Ok.ensures.short c.deref.ensures.value c.answer.ensures.answer

pub returns-in-Err-TooLong-clause-answer : goal.returns-in-Err-TooLong-clause-answer
returns-in-Err-TooLong-clause-answer g c =
    let taken = c.in-Err-TooLong.ensures.too_long (ap Err c.in-Err-TooLong.field-0-is) in
    rw c.status_after.ensures (Answers-too_long _ _ _ taken.0 _ _ c.write_too_long.result taken.2 taken.1 c.write_too_long.ensures.text)

pub returns-in-Err-Fault-clause-answer : goal.returns-in-Err-Fault-clause-answer
returns-in-Err-Fault-clause-answer g c = Answers-nothing _ _

pub returns-in-Err-WantMemory-clause-answer : goal.returns-in-Err-WantMemory-clause-answer
returns-in-Err-WantMemory-clause-answer g c = Answers-nothing _ _
