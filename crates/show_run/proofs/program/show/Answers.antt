use Rattle.program_answers.proofs.AnswerParts.{Answers-nothing}
use Rattle.show_run.proofs.AnswerParts.{leaves-memory}
use Rattle.show_run.proofs.program.show.Goals as goal

pub returns-in-Err-clause-answer : goal.returns-in-Err-clause-answer
returns-in-Err-clause-answer g c = Answers-nothing _ _

pub returns-in-Err-clause-source : goal.returns-in-Err-clause-source
returns-in-Err-clause-source g c = leaves-memory _ _ _ _ c.in-Err.ensures.memory
