use Rattle.std.proofs.Common.{◌≤◌}
use Rattle.kernel_model.specs.KernelRecord.HoldsLists.{HoldsLists}
use Rattle.kernel_model.specs.KernelRecord.Lists.{Lists}
use Rattle.resident_tasks.specs.FaultReporter.Recorded.{OwnsSame}
use Rattle.resident_tasks.proofs.FaultReporter.Reported.{reported_below}
use Rattle.resident_tasks.proofs.fault_reporter.reports.mark_reports.Given as goal

abbrev pub invariant-loop-id : goal.invariant-loop-id
invariant-loop-id l = record {
  low : 5 ≤ l.id;
  lists : (m : Lists) → HoldsLists l.fn.store m → OwnsSame l.fn.store l.store m (reported_below l.id m);
}
