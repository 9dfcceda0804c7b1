use Rattle.resident_tasks.proofs.PipeHandler.AfterRequests.{kept-after}
use Rattle.resident_tasks.proofs.pipe_handler.laws.kept_law.Goals as goal

pub returns : goal.returns
returns c = λ ps r a lawful. kept-after ps a r lawful
