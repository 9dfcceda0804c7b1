use Rattle.std.proofs.Common.{◌≡◌, drop}
use Rattle.std.specs.List.{flat_map}
use Rattle.kernel_lists.specs.HunkLoader.Globals.{globals_in, with_globals}
use Rattle.kernel_model.specs.KernelRecord.HoldsLists.{HoldsLists}
use Rattle.kernel_model.specs.KernelRecord.Lists.{Lists}
use Rattle.kernel_calls.specs.TaskCalls.Private.NewTasks.{MaySetGlobals}
use Rattle.kernel_calls.proofs.task_calls.new_tasks.set_globals.Given as goal

abbrev pub invariant-loop-m : goal.invariant-loop-m
invariant-loop-m l =
    (k : Lists) × HoldsLists l.store k × MaySetGlobals l.store k (drop l.m-index l.modules) l.g
    × (with_globals l.store l.g (flat_map (globals_in l.store) (drop l.m-index l.modules)) ≡ with_globals l.fn.store l.g (flat_map (globals_in l.fn.store) l.modules))
