use Rattle.show_run.proofs.OneAnswer.{one-answer}
use Rattle.show_run.proofs.laws.answer_law.Goals as goal

pub returns : goal.returns
returns c = one-answer
