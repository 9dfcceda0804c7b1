use Rattle.std.proofs.Common.{◌∙◌}
use Rattle.kernel_check.proofs.ListPasses.ClaimedWalks.{chain-walk}
use Rattle.kernel_check.proofs.ListPasses.Residents.{has-id}
use Rattle.kernel_check.proofs.list_passes.resident_pass.has_task.Goals as goal

pub has_task-requires : goal.has_task-requires
has_task-requires c = chain-walk c.args.store.now c.requires.claimed

pub returns : goal.returns
returns c = c.has_task.ensures ∙ has-id c.args.store.now c.args.id
