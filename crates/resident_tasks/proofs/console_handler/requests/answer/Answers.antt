use Rattle.std.proofs.Common.{◌∙◌, sym}
use Rattle.resident_tasks.proofs.ConsoleHandler.TreatedRequests.{readable-few}
use Rattle.resident_tasks.proofs.console_handler.requests.answer.Goals as goal

pub read_buffer-text-requires : goal.read_buffer-text-requires
read_buffer-text-requires c = readable-few c.args.store.now c.args.request.first c.args.request.second (sym c.can_read.ensures ∙ c.if-not-can_read.false)
