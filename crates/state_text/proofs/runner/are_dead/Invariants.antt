use Rattle.std.proofs.Common.{◌≡◌}
use Rattle.std.specs.List.{list_all}
use Rattle.kernel_model.specs.KernelRecord.Recovered.{lists_in, task_in}
use Rattle.state_text.specs.Runner.{is_dead}
use Rattle.state_text.proofs.runner.are_dead.Given as goal

abbrev pub invariant-loop-t : goal.invariant-loop-t
invariant-loop-t l = list_all is_dead (lists_in l.store).tasks ≡ list_all (λ t. is_dead (task_in l.store t)) l.t-iterator
