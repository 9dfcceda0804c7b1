use Rattle.std.proofs.Common.{rules}
use Rattle.command_lines.specs.Arguments.{arguments}
use Rattle.command_lines.proofs.ValuesInside.{given-inside}
use Rattle.command_lines.proofs.arguments.read_arguments.Goals as goal

pub returns-in_err-read_args-clause-value : goal.returns-in_err-read_args-clause-value
unfolding arguments
returns-in_err-read_args-clause-value c = search rules

pub returns-clause-value : goal.returns-clause-value
unfolding arguments
returns-clause-value c = search rules

pub returns-clause-inside : goal.returns-clause-inside
returns-clause-inside c = given-inside c.args.template.now c.args.line.now c.read_args.new.values c.in_ok-read_args.ensures.answer
