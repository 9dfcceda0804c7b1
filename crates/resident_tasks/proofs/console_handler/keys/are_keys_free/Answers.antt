use Rattle.resident_tasks.proofs.ConsoleHandler.FreeKeys.{free-is}
use Rattle.resident_tasks.proofs.console_handler.keys.are_keys_free.Goals as goal

pub returns : goal.returns
returns c = λ l h residents. free-is c.args.store.now l h residents c.word_at.result c.word_at.ensures
