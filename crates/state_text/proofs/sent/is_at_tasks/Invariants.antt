use Rattle.std.proofs.Common.{◌≡◌}
use Rattle.std.specs.List.{AllByRecursion, list_any}
use Rattle.kernel_model.specs.KernelRecord.KernelRanges.{CanWalkTask}
use Rattle.kernel_model.specs.KernelRecord.Recovered.{lists_in, task_in}
use Rattle.state_text.specs.AwaitedPackets.{is_from}
use Rattle.state_text.proofs.sent.is_at_tasks.Given as goal

abbrev pub invariant-loop-t : goal.invariant-loop-t
invariant-loop-t l = record {
  same : list_any (λ t. list_any (is_from l.id) t.queue) (lists_in l.store).tasks ≡ list_any (λ t. list_any (is_from l.id) (task_in l.store t).queue) l.t-iterator;
  walk : AllByRecursion (CanWalkTask l.store) l.t-iterator;
}
