use Rattle.std.proofs.Common.{refl}
use Rattle.program_answers.proofs.AnswerParts.{Answered-by}
use Rattle.show_run.specs.InputAnswers.{IsShown}
use Rattle.show_run.proofs.answer.answer_text.Goals as goal

pub returns-clause-answer : goal.returns-clause-answer
returns-clause-answer g c = Answered-by (IsShown c.args.asked c.args.text.now) _ refl _ _ c.answer_session_text.result c.answer_session_text.ensures.answer
