use Rattle.std.proofs.Common.{◌≡◌}
use Rattle.std.specs.List.{AllByRecursion}
use Rattle.kernel_lists.specs.LinkedList.Linked.{IsNode}
use Rattle.kernel_lists.specs.LinkedList.Places.{cell_after}
use Rattle.kernel_lists.specs.TaskBlock.TaskChain.{is_above, task_link, task_size, tasks_in}
use Rattle.kernel_lists.proofs.task_block.chain.link_above.Given as goal

abbrev pub invariant-loop-u : goal.invariant-loop-u
invariant-loop-u l =
    (cell_after (is_above l.store l.t) task_link 101 (tasks_in l.store) ≡ cell_after (is_above l.store l.t) task_link l.cell l.u-iterator)
    × AllByRecursion (IsNode l.store task_link task_size) l.u-iterator
