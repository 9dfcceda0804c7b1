use Rattle.shell.proofs.ShellPrograms.KeptFaults.{cleared-faults}
use Rattle.shell.proofs.ShellPrograms.KeptRules.{cleared-alone, cleared-residents, cleared-runs}
use Rattle.shell.proofs.shell_programs.laws.clearing_law.Goals as goal

pub returns-clause-kept : goal.returns-clause-kept
returns-clause-kept c = cleared-residents

pub returns-clause-runs : goal.returns-clause-runs
returns-clause-runs c = cleared-runs

pub returns-clause-alone : goal.returns-clause-alone
returns-clause-alone c = cleared-alone

pub returns-clause-faults : goal.returns-clause-faults
returns-clause-faults c = cleared-faults
