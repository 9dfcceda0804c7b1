use Rattle.show_run.proofs.StepLog.QuietSteps.{plain-events}
use Rattle.show_run.proofs.step_log.turns.take_quiet_step.Goals as goal

pub returns-in-Some-clause-quiet : goal.returns-in-Some-clause-quiet
returns-in-Some-clause-quiet c = λ _. plain-events c.in-Some.ensures.step
