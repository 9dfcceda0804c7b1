use Rattle.resident_tasks.proofs.PipeHandler.Histories.{pipe-bytes, pipe-room}
use Rattle.resident_tasks.proofs.pipe_handler.laws.pipe_law.Goals as goal

pub returns-clause-bytes : goal.returns-clause-bytes
returns-clause-bytes c = pipe-bytes

pub returns-clause-room : goal.returns-clause-room
returns-clause-room c = pipe-room
