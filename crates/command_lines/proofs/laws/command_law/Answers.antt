use Rattle.command_lines.proofs.AskedCommands.{asked-command, command-asked}
use Rattle.command_lines.proofs.laws.command_law.Goals as goal

pub returns-clause-sound : goal.returns-clause-sound
returns-clause-sound c = command-asked

pub returns-clause-complete : goal.returns-clause-complete
returns-clause-complete c = asked-command
