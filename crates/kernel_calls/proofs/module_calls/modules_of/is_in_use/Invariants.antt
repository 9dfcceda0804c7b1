use Rattle.std.proofs.Common.{◌≡◌}
use Rattle.std.specs.List.{AllByRecursion, list_any}
use Rattle.kernel_lists.specs.LinkedList.Places.{has}
use Rattle.kernel_lists.specs.TaskBlock.TaskChain.{tasks_in}
use Rattle.kernel_calls.specs.ModuleCalls.Private.ModuleFields.{IsTaskIn, module_fields}
use Rattle.kernel_calls.proofs.module_calls.modules_of.is_in_use.Given as goal

abbrev pub invariant-loop-t : goal.invariant-loop-t
invariant-loop-t l =
    (list_any (λ t. has l.m (module_fields l.store t)) (tasks_in l.store) ≡ list_any (λ t. has l.m (module_fields l.store t)) l.t-iterator)
    × AllByRecursion (IsTaskIn l.store) l.t-iterator
