use Rattle.std.proofs.Common.{◌∙◌}
use Rattle.friendly_assembly.proofs.PartCases.{one_operand}
use Rattle.friendly_assembly.proofs.strings.operands_flaw.Goals as goal

pub returns-in-len1 : goal.returns-in-len1
returns-in-len1 c = c.text_flaw.ensures ∙ one_operand c.args.word.now c.args.operands.now c.part-item.result c.in-len1.len_at_least c.in-len1.len_below c.part-item.is
