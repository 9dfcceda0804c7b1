use Rattle.std.proofs.Common.{length}
use Rattle.kernel_lists.specs.PacketQueue.Queue.{queue_at}
use Rattle.kernel_model.specs.KernelRecord.HoldsLists.{HoldsLists}
use Rattle.kernel_model.specs.KernelRecord.Lists.{Lists}
use Rattle.kernel_model.specs.KernelRecord.Owned.{clock_head}
use Rattle.kernel_devices.proofs.ReturnedPackets.{HasReturned}
use Rattle.kernel_devices.proofs.ticks.return_due.Given as goal

abbrev pub invariant-loop-store : goal.invariant-loop-store
invariant-loop-store g l =
    (m : Lists) → HoldsLists l.fn.store m
    → HasReturned l.fn.store l.store l.now m (g.L.EventLog.noted l.fn.log) (g.L.EventLog.noted l.log) (g.L.EventLog.has_failed l.fn.log) (g.L.EventLog.has_failed l.log)

abbrev pub decreases-loop-store : goal.decreases-loop-store
decreases-loop-store g l = length (queue_at l.store clock_head)
