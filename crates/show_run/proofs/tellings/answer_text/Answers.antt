use Rattle.std.proofs.Common.{refl}
use Rattle.program_answers.proofs.AnswerParts.{Answered-by}
use Rattle.told_answers.specs.ToldAnswers.{told_answer}
use Rattle.tool_texts.specs.Told.{told_of}
use Rattle.show_run.specs.Tellings.{IsTold}
use Rattle.show_run.proofs.tellings.answer_text.Goals as goal

pub returns-in-Ok-clause-answer : goal.returns-in-Ok-clause-answer
returns-in-Ok-clause-answer g c =
    let given = told_of c.in-Ok.told in
    Answered-by (IsTold c.args.asked c.args.text.now) (told_answer given) (given, c.in-Ok.ensures, refl) _ _ c.write_told.result c.write_told.ensures.answer
