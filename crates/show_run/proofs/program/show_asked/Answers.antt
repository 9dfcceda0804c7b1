use Rattle.show_run.proofs.AnswerParts.{Answers-usage}
use Rattle.show_run.proofs.program.show_asked.Goals as goal

pub returns-in-None-clause-answer : goal.returns-in-None-clause-answer
returns-in-None-clause-answer g c =
    rw c.status_after.ensures (Answers-usage _ _ _ _ c.write_usage.result c.in-None.is c.write_usage.ensures.text)
