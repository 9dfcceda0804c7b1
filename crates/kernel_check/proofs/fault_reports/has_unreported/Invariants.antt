use Rattle.std.proofs.Common.{◌≡◌}
use Rattle.std.specs.List.{list_any}
use Rattle.kernel_model.specs.KernelRecord.Recovered.{lists_in}
use Rattle.kernel_check.specs.Private.Reports.{is_unreported_as}
use Rattle.kernel_check.proofs.FaultReports.{any_in}
use Rattle.kernel_check.proofs.fault_reports.has_unreported.Given as goal

abbrev pub invariant-loop-t : goal.invariant-loop-t
invariant-loop-t l = any_in l.store (is_unreported_as l.id) l.t-iterator ≡ list_any (is_unreported_as l.id) (lists_in l.store).tasks
