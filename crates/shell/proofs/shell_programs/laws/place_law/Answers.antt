use Rattle.shell.proofs.ShellPrograms.PacketPlace.{packet-arguments, packet-kept, packet-lodged}
use Rattle.shell.proofs.shell_programs.laws.place_law.Goals as goal

pub returns-clause-lodged : goal.returns-clause-lodged
returns-clause-lodged c = packet-lodged

pub returns-clause-arguments : goal.returns-clause-arguments
returns-clause-arguments c = packet-arguments

pub returns-clause-kept : goal.returns-clause-kept
returns-clause-kept c = packet-kept
