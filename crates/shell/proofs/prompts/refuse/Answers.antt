use Rattle.shell.specs.ShellListings.NumberLines.{error_line}
use Rattle.shell.proofs.DoneParts.{ready-shown}
use Rattle.shell.proofs.prompts.refuse.Goals as goal

pub prompt-requires-clause-ready : goal.prompt-requires-clause-ready
prompt-requires-clause-ready g c = (_, _, _, ready-shown c.requires.ready.3 (error_line c.args.code) c.write_error.new.bytes c.write_error.ensures.text)

pub returns-clause-done : goal.returns-clause-done
returns-clause-done g c = λ b d x r. c.prompt.ensures.done b d _ (ready-shown r (error_line c.args.code) c.write_error.new.bytes c.write_error.ensures.text)
