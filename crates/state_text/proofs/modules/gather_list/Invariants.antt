use Rattle.std.proofs.Common.{◌≤◌}
use Rattle.std.specs.List.{AllByRecursion, flat_map}
use Rattle.kernel_model.specs.KernelRecord.KernelRanges.{IsModuleIn}
use Rattle.kernel_model.specs.KernelRecord.Recovered.{lists_in, module_in}
use Rattle.state_text.specs.ModuleTexts.{module_line}
use Rattle.state_text.specs.ProgramNames.{name_in}
use Rattle.state_text.proofs.GatheredLines.{IsSoFar}
use Rattle.state_text.proofs.modules.gather_list.Given as goal

abbrev pub invariant-loop-m : goal.invariant-loop-m
invariant-loop-m g l = record {
  so_far : IsSoFar (λ m. module_line (name_in l.programs l.store) (module_in l.store m)) l.m-iterator (flat_map (module_line (name_in l.programs l.store)) (lists_in l.store).modules) (g.K.Sink.holds l.fn.out) (g.K.Sink.holds l.out) l.fn.pending l.pending;
  walk : AllByRecursion (IsModuleIn l.store) l.m-iterator;
  later : g.K.Sink.faults l.fn.out ≤ g.K.Sink.faults l.out;
}
