use Rattle.std.proofs.Common.{[], ◌∙◌}
use Rattle.ram_disc.specs.DiscCalls.{after_open_write}
use Rattle.resident_tasks.specs.FileHandler.FileRequests.{by_call, handled}
use Rattle.resident_tasks.proofs.FileHandler.NamedFiles.{named}
use Rattle.resident_tasks.proofs.file_handler.files.open_to_write.Goals as goal

pub returns : goal.returns
returns c =
    (λ k. handled (c.open_write.ensures.disc k) (c.open_write.ensures.answer k) [])
    ∙ named c.args.store.now c.args.disc.now c.args.request.first c.in_ok-name.name (λ name. by_call (after_open_write c.args.disc.now name)) c.in_ok-name.ensures
