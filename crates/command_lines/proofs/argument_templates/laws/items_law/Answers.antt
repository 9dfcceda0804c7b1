use Rattle.command_lines.proofs.ArgumentTemplates.CutLines.{items-complete, items-cut}
use Rattle.command_lines.proofs.argument_templates.laws.items_law.Goals as goal

pub returns-clause-sound : goal.returns-clause-sound
returns-clause-sound c = items-cut

pub returns-clause-complete : goal.returns-clause-complete
returns-clause-complete c = items-complete
