use Rattle.resident_tasks.proofs.PipeHandler.RequestsInTurns.{asked-lawful, request-asked, turn-asked}
use Rattle.resident_tasks.proofs.pipe_handler.laws.step_law.Goals as goal

pub returns-clause-request : goal.returns-clause-request
returns-clause-request c = λ ps s l r. request-asked s l r ps

pub returns-clause-lawful : goal.returns-clause-lawful
returns-clause-lawful c = asked-lawful

pub returns-clause-turn : goal.returns-clause-turn
returns-clause-turn c = turn-asked
