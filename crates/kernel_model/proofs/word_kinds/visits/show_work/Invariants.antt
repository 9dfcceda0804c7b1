use Rattle.std.proofs.Common.{◌≡◌, ◌++◌}
use Rattle.std.specs.List.{AllByRecursion, flat_map}
use Rattle.kernel_lists.specs.TaskBlock.TaskChain.{tasks_in}
use Rattle.kernel_model.specs.KernelRecord.Task.{queue_head}
use Rattle.kernel_model.specs.KernelRecord.KernelRanges.{CanWalkTask, packets_at}
use Rattle.kernel_model.proofs.word_kinds.visits.show_work.Given as goal

abbrev pub invariant-loop-t : goal.invariant-loop-t
invariant-loop-t g l =
    g.V.Visitor.shown l.fn.visitor l.visitor (flat_map (λ t. packets_at l.store (queue_head t)) l.yielded)
    × (tasks_in l.store ≡ l.yielded ++ l.t-iterator)
    × AllByRecursion (CanWalkTask l.store) l.t-iterator
