use Rattle.std.proofs.Common.{◌∙◌, sym}
use Rattle.tools_run.proofs.AnswerParts.{Answers-usage}
use Rattle.tools_run.proofs.program.tools.Goals as goal

pub returns-in-None-clause-answer : goal.returns-in-None-clause-answer
returns-in-None-clause-answer g c =
    rw c.status_after.ensures (Answers-usage _ _ _ _ c.write_usage.result (sym c.asked_of.ensures ∙ c.in-None.is) c.write_usage.ensures.text)
