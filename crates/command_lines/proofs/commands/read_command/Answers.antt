use Rattle.std.proofs.Common.{rules}
use Rattle.command_lines.specs.Command.{command_of}
use Rattle.command_lines.proofs.commands.read_command.Goals as goal

pub returns-then-is_empty : goal.returns-then-is_empty
unfolding command_of
returns-then-is_empty c = search rules

pub returns-in-Some : goal.returns-in-Some
unfolding command_of
returns-in-Some c = search rules

pub returns-in-None : goal.returns-in-None
unfolding command_of
returns-in-None c = search rules
