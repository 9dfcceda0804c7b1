use Rattle.std.proofs.Common.{◌≡◌, drop, not}
use Rattle.std.specs.List.{list_any}
use Rattle.kernel_lists.specs.LinkedList.Places.{has}
use Rattle.kernel_lists.specs.TaskBlock.Lists.{modules_in}
use Rattle.kernel_calls.proofs.task_calls.module_tests.check_modules.Given as goal

abbrev pub invariant-loop-m : goal.invariant-loop-m
invariant-loop-m l =
    list_any (λ m. not (has m (modules_in l.store))) l.modules ≡ list_any (λ m. not (has m (modules_in l.store))) (drop l.m-index l.modules)
