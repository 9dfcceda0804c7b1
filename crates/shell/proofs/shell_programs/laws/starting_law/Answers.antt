use Rattle.shell.proofs.ShellPrograms.KeptSteps.{started-there}
use Rattle.shell.proofs.ShellPrograms.KeptFaults.{started-faults}
use Rattle.shell.proofs.ShellPrograms.KeptRules.{started-alone, started-packets, started-residents, started-runs}
use Rattle.shell.proofs.shell_programs.laws.starting_law.Goals as goal

pub returns-clause-kept : goal.returns-clause-kept
returns-clause-kept c = started-residents

pub returns-clause-packets : goal.returns-clause-packets
returns-clause-packets c = started-packets

pub returns-clause-runs : goal.returns-clause-runs
returns-clause-runs c = started-runs

pub returns-clause-alone : goal.returns-clause-alone
returns-clause-alone c = started-alone

pub returns-clause-faults : goal.returns-clause-faults
returns-clause-faults c = started-faults

pub returns-clause-there : goal.returns-clause-there
returns-clause-there c = started-there
