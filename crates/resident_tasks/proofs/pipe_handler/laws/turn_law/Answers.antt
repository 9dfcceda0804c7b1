use Rattle.resident_tasks.proofs.PipeHandler.KeptTurns.{turn-kept}
use Rattle.resident_tasks.proofs.pipe_handler.laws.turn_law.Goals as goal

pub returns : goal.returns
returns c = turn-kept
