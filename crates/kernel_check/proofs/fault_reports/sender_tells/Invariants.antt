use Rattle.kernel_check.proofs.FaultReports.{IsSeeking}
use Rattle.kernel_check.proofs.fault_reports.sender_tells.Given as goal

abbrev pub invariant-loop-t : goal.invariant-loop-t
invariant-loop-t l = IsSeeking l.store l.t-iterator
