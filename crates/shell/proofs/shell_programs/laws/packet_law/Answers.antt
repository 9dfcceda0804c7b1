use Rattle.shell.proofs.ShellPrograms.KeptFaults.{posted-faults}
use Rattle.shell.proofs.ShellPrograms.SentRules.{posted-alone, posted-is, posted-runs, queue-with}
use Rattle.shell.proofs.shell_programs.laws.packet_law.Goals as goal

pub returns-clause-queue : goal.returns-clause-queue
returns-clause-queue c = λ to k low. (queue-with to k, posted-is to k low)

pub returns-clause-runs : goal.returns-clause-runs
returns-clause-runs c = posted-runs

pub returns-clause-alone : goal.returns-clause-alone
returns-clause-alone c = posted-alone

pub returns-clause-faults : goal.returns-clause-faults
returns-clause-faults c = posted-faults
