use Rattle.shell.proofs.ShellPrograms.KeptFaults.{begun-faults}
use Rattle.shell.proofs.ShellPrograms.KeptRules.{begun-alone, begun-packets, begun-residents, begun-runs}
use Rattle.shell.proofs.shell_programs.laws.beginning_law.Goals as goal

pub returns-clause-kept : goal.returns-clause-kept
returns-clause-kept c = begun-residents

pub returns-clause-packets : goal.returns-clause-packets
returns-clause-packets c = begun-packets

pub returns-clause-runs : goal.returns-clause-runs
returns-clause-runs c = begun-runs

pub returns-clause-alone : goal.returns-clause-alone
returns-clause-alone c = begun-alone

pub returns-clause-faults : goal.returns-clause-faults
returns-clause-faults c = begun-faults
