use Rattle.std.proofs.Common.{◌≡◌, ◌-◌}
use Rattle.kernel_lists.specs.TaskBlock.TaskChain.{lowest_free_id}
use Rattle.kernel_lists.proofs.TaskBlock.TableEntries.{free_from}
use Rattle.kernel_lists.proofs.task_block.search.free_id.Given as goal

abbrev pub invariant-loop-id : goal.invariant-loop-id
invariant-loop-id l = lowest_free_id l.store ≡ free_from l.store l.id (l.id-end - l.id)
