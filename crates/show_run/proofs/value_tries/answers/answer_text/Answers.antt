use Rattle.std.proofs.Common.{refl}
use Rattle.program_answers.proofs.AnswerParts.{Answered-by}
use Rattle.show_run.specs.ValueTries.TriesAnswers.{IsTried}
use Rattle.show_run.specs.ValueTries.TryWords.{asked}
use Rattle.show_run.proofs.value_tries.answers.answer_text.Goals as goal

pub returns-clause-answer : goal.returns-clause-answer
returns-clause-answer g c = Answered-by (IsTried (asked c.args.setting c.args.spans.now) c.args.text.now) _ refl _ _ c.answer_session_text.result c.answer_session_text.ensures.answer
