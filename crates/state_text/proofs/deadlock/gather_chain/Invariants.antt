use Rattle.std.proofs.Common.{◌≤◌}
use Rattle.std.specs.List.{AllByRecursion, flat_map}
use Rattle.kernel_model.specs.KernelRecord.KernelRanges.{CanWalkTask}
use Rattle.kernel_model.specs.KernelRecord.Recovered.{lists_in, task_in}
use Rattle.state_text.specs.Deadlock.{stuck_words}
use Rattle.state_text.proofs.GatheredLines.{IsSoFar}
use Rattle.state_text.proofs.deadlock.gather_chain.Given as goal

abbrev pub invariant-loop-t : goal.invariant-loop-t
invariant-loop-t g l = record {
  so_far : IsSoFar (λ t. stuck_words (task_in l.store t)) l.t-iterator (flat_map stuck_words (lists_in l.store).tasks) (g.K.Sink.holds l.fn.out) (g.K.Sink.holds l.out) l.fn.pending l.pending;
  walk : AllByRecursion (CanWalkTask l.store) l.t-iterator;
  later : g.K.Sink.faults l.fn.out ≤ g.K.Sink.faults l.out;
}
