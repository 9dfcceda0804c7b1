use Rattle.std.proofs.Common.{◌≡◌, ◌+◌, ◌≤◌}
use Rattle.kernel_calls.specs.ModuleCalls.Private.ModuleFields.{further_count}
use Rattle.kernel_calls.proofs.ModuleCalls.FurtherModules.{count_from}
use Rattle.kernel_calls.proofs.module_calls.addition.count_modules.Given as goal

abbrev pub invariant-loop-i : goal.invariant-loop-i
invariant-loop-i l = record { left : l.count + count_from l.store l.task l.i ≡ 1 + further_count l.store l.task; few : l.count ≤ l.i }
