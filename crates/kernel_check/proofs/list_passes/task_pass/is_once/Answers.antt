use Rattle.kernel_check.proofs.ListPasses.ClaimedWalks.{chain-walk}
use Rattle.kernel_check.proofs.list_passes.task_pass.is_once.Goals as goal

pub tasks-t-items-requires : goal.tasks-t-items-requires
tasks-t-items-requires c = chain-walk c.args.store.now c.requires.claimed
