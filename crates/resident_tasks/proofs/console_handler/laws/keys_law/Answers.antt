use Rattle.resident_tasks.proofs.ConsoleHandler.KeptKeys.{line-fits-keys}
use Rattle.resident_tasks.proofs.console_handler.laws.keys_law.Goals as goal

pub returns : goal.returns
returns c = λ id s l console k x. line-fits-keys id s l console k x
