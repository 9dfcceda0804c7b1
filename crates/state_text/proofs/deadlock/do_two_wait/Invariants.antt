use Rattle.std.proofs.Common.{◌≡◌, cond}
use Rattle.std.specs.List.{AllByRecursion, list_any}
use Rattle.kernel_model.specs.KernelRecord.KernelRanges.{CanWalkTask}
use Rattle.kernel_model.specs.KernelRecord.Recovered.{lists_in, task_in}
use Rattle.state_text.specs.Deadlock.{is_waiting, two_pass}
use Rattle.state_text.proofs.deadlock.do_two_wait.Given as goal

abbrev pub invariant-loop-t : goal.invariant-loop-t
invariant-loop-t l = record {
  same : two_pass is_waiting (lists_in l.store).tasks
      ≡ cond l.one_waits (list_any (λ t. is_waiting (task_in l.store t)) l.t-iterator) (two_pass (λ t. is_waiting (task_in l.store t)) l.t-iterator);
  walk : AllByRecursion (CanWalkTask l.store) l.t-iterator;
}
