use Rattle.resident_tasks.proofs.FileHandler.EndedRequests.{turn-keeps}
use Rattle.resident_tasks.proofs.file_handler.laws.shell_law.Goals as goal

pub returns : goal.returns
returns c = turn-keeps
