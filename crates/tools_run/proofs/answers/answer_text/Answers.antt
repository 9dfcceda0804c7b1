use Rattle.std.proofs.Common.{ℕ, List, subst}
use Rattle.program_answers.proofs.AnswerParts.{Answered-by}
use Rattle.told_answers.specs.ToldAnswers.{told_answer}
use Rattle.tool_texts.specs.Told.{told_of}
use Rattle.tools_run.specs.ToolAnswers.{IsToolAnswer, Tells}
use Rattle.tools_run.proofs.ToldAnswers.{told-by}
use Rattle.tools_run.proofs.answers.answer_text.Goals as goal

pub returns-in-Ok-clause-answer : goal.returns-in-Ok-clause-answer
returns-in-Ok-clause-answer g c =
    let asked = c.args.asked.now in
    let text = c.args.text.now in
    let given = told_of c.in-Ok.told in
    let tells = subst (λ (name : List ℕ). Tells asked.tool name text given) c.bytes.ensures c.in-Ok.ensures in
    Answered-by (IsToolAnswer asked text) (told_answer given)
    (told-by asked.tool asked.name text given tells) _ _ c.write_told.result c.write_told.ensures.answer
