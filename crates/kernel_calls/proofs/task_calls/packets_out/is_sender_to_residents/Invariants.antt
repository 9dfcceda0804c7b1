use Rattle.std.proofs.Common.{◌≡◌}
use Rattle.std.specs.List.{AllByRecursion, list_any}
use Rattle.kernel_model.specs.KernelRecord.KernelRanges.{CanWalkTask}
use Rattle.kernel_calls.specs.TaskCalls.Private.PacketsOut.{is_sender_to, is_sender_to_residents}
use Rattle.kernel_calls.proofs.task_calls.packets_out.is_sender_to_residents.Given as goal

abbrev pub invariant-loop-t : goal.invariant-loop-t
invariant-loop-t l =
    (is_sender_to_residents l.store l.id ≡ list_any (is_sender_to l.store l.id) l.t-iterator)
    × AllByRecursion (CanWalkTask l.store) l.t-iterator
