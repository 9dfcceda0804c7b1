use Rattle.tools_run.proofs.OneAnswer.{one-answer}
use Rattle.tools_run.proofs.laws.answer_law.Goals as goal

pub returns : goal.returns
returns c = one-answer
