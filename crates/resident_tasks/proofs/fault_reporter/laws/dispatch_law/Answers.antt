use Rattle.resident_tasks.proofs.FaultReporter.RunsKept.{recorded-dispatch, turn-dispatch}
use Rattle.resident_tasks.proofs.fault_reporter.laws.dispatch_law.Goals as goal

pub returns-clause-recorded : goal.returns-clause-recorded
returns-clause-recorded c = recorded-dispatch

pub returns-clause-reported : goal.returns-clause-reported
returns-clause-reported c = turn-dispatch
