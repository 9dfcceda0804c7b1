use Rattle.std.proofs.Common.{◌∙◌, ap, arith, length}
use Rattle.command_lines.specs.Command.{command_of}
use Rattle.shell.specs.Commands.{executed_if}
use Rattle.shell.proofs.DoneParts.{done-is}
use Rattle.shell.proofs.commands.execute_line.Goals as goal

pub read_command-requires : goal.read_command-requires
read_command-requires g c = omega (arith, ap length c.line.ensures.bytes, c.line.ensures.fits)

pub returns-in-Err-clause-done : goal.returns-in-Err-clause-done
returns-in-Err-clause-done g c = λ b x r.
    done-is (c.refuse.ensures.done b _ x r) _ (ap (λ o. executed_if o x) (c.in-Err.ensures ∙ ap command_of (c.line.ensures.bytes ∙ ap (λ s. s.line) r.done.shell)))
