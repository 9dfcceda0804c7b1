use Rattle.std.proofs.Common.{◌≡◌}
use Rattle.std.specs.List.{AllByRecursion, list_any}
use Rattle.kernel_model.specs.KernelRecord.KernelRanges.{CanWalkTask}
use Rattle.kernel_model.specs.KernelRecord.Recovered.{lists_in, task_in}
use Rattle.state_text.specs.Deadlock.{is_stuck}
use Rattle.state_text.proofs.deadlock.is_any_stuck.Given as goal

abbrev pub invariant-loop-t : goal.invariant-loop-t
invariant-loop-t l = record {
  same : list_any is_stuck (lists_in l.store).tasks ≡ list_any (λ t. is_stuck (task_in l.store t)) l.t-iterator;
  walk : AllByRecursion (CanWalkTask l.store) l.t-iterator;
}
