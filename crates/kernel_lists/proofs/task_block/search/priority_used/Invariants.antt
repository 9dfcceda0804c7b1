use Rattle.std.proofs.Common.{◌≡◌, ◌&&◌, eqb}
use Rattle.std.specs.Prelude.{not}
use Rattle.std.specs.List.{AllByRecursion, list_any}
use Rattle.kernel_lists.specs.LinkedList.Linked.{IsNode}
use Rattle.kernel_lists.specs.TaskBlock.TaskChain.{id_in, is_priority_used, priority_in, task_link, task_size}
use Rattle.kernel_lists.proofs.task_block.search.priority_used.Given as goal

abbrev pub invariant-loop-t : goal.invariant-loop-t
invariant-loop-t l =
    (is_priority_used l.store l.pri l.except ≡ list_any (λ t. eqb (priority_in l.store t) l.pri && not (eqb (id_in l.store t) l.except)) l.t-iterator)
    × AllByRecursion (IsNode l.store task_link task_size) l.t-iterator
