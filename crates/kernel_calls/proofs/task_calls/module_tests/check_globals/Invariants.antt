use Rattle.std.proofs.Common.{◌≡◌, drop, true}
use Rattle.std.specs.List.{AllByRecursion, list_any}
use Rattle.kernel_lists.specs.LinkedList.Places.{has}
use Rattle.kernel_lists.specs.TaskBlock.Lists.{modules_in}
use Rattle.kernel_calls.specs.TaskCalls.CreateTask.{has_high_globals}
use Rattle.kernel_calls.proofs.task_calls.module_tests.check_globals.Given as goal

abbrev pub invariant-loop-m : goal.invariant-loop-m
invariant-loop-m l =
    (list_any (has_high_globals l.store) l.modules ≡ list_any (has_high_globals l.store) (drop l.m-index l.modules))
    × AllByRecursion (λ m. has m (modules_in l.store) ≡ true) (drop l.m-index l.modules)
