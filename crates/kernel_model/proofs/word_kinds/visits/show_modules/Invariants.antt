use Rattle.std.proofs.Common.{◌≡◌, ◌++◌}
use Rattle.std.specs.List.{AllByRecursion, flat_map}
use Rattle.kernel_lists.specs.TaskBlock.Lists.{modules_in}
use Rattle.kernel_model.specs.KernelRecord.KernelRanges.{IsModuleIn, module_ranges}
use Rattle.kernel_model.proofs.word_kinds.visits.show_modules.Given as goal

abbrev pub invariant-loop-m : goal.invariant-loop-m
invariant-loop-m g l =
    g.V.Visitor.shown l.fn.visitor l.visitor (flat_map (module_ranges l.store) l.yielded)
    × (modules_in l.store ≡ l.yielded ++ l.m-iterator)
    × AllByRecursion (IsModuleIn l.store) l.m-iterator
