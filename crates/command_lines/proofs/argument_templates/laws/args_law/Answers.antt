use Rattle.command_lines.proofs.ArgumentTemplates.Rules.{answer-complete, answer-sound}
use Rattle.command_lines.proofs.argument_templates.laws.args_law.Goals as goal

pub returns-clause-sound : goal.returns-clause-sound
returns-clause-sound c = answer-sound

pub returns-clause-complete : goal.returns-clause-complete
returns-clause-complete c template line outcome rules = answer-complete rules
