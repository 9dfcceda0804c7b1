use Rattle.resident_tasks.proofs.FaultReporter.FaultsKept.{recorded-hold, turn-hold}
use Rattle.resident_tasks.proofs.fault_reporter.laws.faults_law.Goals as goal

pub returns-clause-recorded : goal.returns-clause-recorded
returns-clause-recorded c = recorded-hold

pub returns-clause-reported : goal.returns-clause-reported
returns-clause-reported c = turn-hold
