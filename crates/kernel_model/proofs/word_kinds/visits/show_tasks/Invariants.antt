use Rattle.std.proofs.Common.{◌≡◌, ◌++◌}
use Rattle.std.specs.List.{AllByRecursion, flat_map}
use Rattle.kernel_lists.specs.TaskBlock.TaskChain.{tasks_in}
use Rattle.kernel_model.specs.KernelRecord.KernelRanges.{CanWalkTask, task_ranges}
use Rattle.kernel_model.proofs.word_kinds.visits.show_tasks.Given as goal

abbrev pub invariant-loop-t : goal.invariant-loop-t
invariant-loop-t g l =
    g.V.Visitor.shown l.fn.visitor l.visitor (flat_map (task_ranges l.store) l.yielded)
    × (tasks_in l.store ≡ l.yielded ++ l.t-iterator)
    × AllByRecursion (CanWalkTask l.store) l.t-iterator
