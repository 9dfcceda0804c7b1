use Rattle.std.proofs.Common.{false, [], ◌∙◌}
use Rattle.ram_disc.specs.DiscCalls.{after_open_read}
use Rattle.resident_tasks.specs.FileHandler.FileRequests.{by_call, handled}
use Rattle.resident_tasks.proofs.FileHandler.NamedFiles.{named}
use Rattle.resident_tasks.proofs.file_handler.files.open_to_read.Goals as goal

pub returns : goal.returns
returns c =
    (λ k. handled (c.open_read.ensures.disc k) (c.open_read.ensures.answer k) [])
    ∙ named c.args.store.now c.args.disc.now c.args.request.first c.in_ok-name.name (λ name. by_call (after_open_read c.args.disc.now name false)) c.in_ok-name.ensures
