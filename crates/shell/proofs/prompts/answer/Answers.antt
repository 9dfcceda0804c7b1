use Rattle.shell.proofs.DoneParts.{answered-done, answered-refused, done-is}
use Rattle.shell.proofs.prompts.answer.Goals as goal

pub returns-in-Ok-clause-done : goal.returns-in-Ok-clause-done
returns-in-Ok-clause-done g c = λ b d x r. done-is (c.prompt.ensures.done b d x r) _ (answered-done c.args.outcome _ x c.in-Ok.is)

pub returns-in-Err-clause-done : goal.returns-in-Err-clause-done
returns-in-Err-clause-done g c = λ b d x r. done-is (c.refuse.ensures.done b d x r) _ (answered-refused c.args.outcome _ x c.in-Err.is)
