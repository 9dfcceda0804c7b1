use Rattle.resident_tasks.proofs.FileHandler.EndedRequests.{refusal-nothing}
use Rattle.resident_tasks.proofs.file_handler.laws.refusal_law.Goals as goal

pub returns : goal.returns
returns c = refusal-nothing
