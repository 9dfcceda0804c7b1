use Rattle.std.proofs.Common.{◌≡◌, ◌+◌, ◌*◌, ◌≤◌, ◌++◌, length}
use Rattle.std.specs.List.{flat_map}
use Rattle.kernel_lists.specs.TaskBlock.TaskChain.{tasks_in}
use Rattle.resident_tasks.specs.FaultReporter.Texts.{most_in_line, report_at}
use Rattle.resident_tasks.proofs.fault_reporter.reports.print_reports.Given as goal

abbrev pub invariant-loop-t : goal.invariant-loop-t
invariant-loop-t l = record {
  text : l.bytes ++ flat_map (report_at l.store) l.t-iterator ≡ l.fn.bytes ++ flat_map (report_at l.store) (tasks_in l.store);
  room : length l.bytes + most_in_line * length l.t-iterator ≤ 8192;
}
