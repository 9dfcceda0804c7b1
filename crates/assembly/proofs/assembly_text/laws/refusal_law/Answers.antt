use Rattle.assembly.proofs.AssemblyText.LineErrorLemmas.{line_codes, operand_codes}
use Rattle.assembly.proofs.AssemblyText.TextRefusals.{refusal_complete, refusal_sound}
use Rattle.assembly.proofs.assembly_text.laws.refusal_law.Goals as goal

pub returns-clause-sound : goal.returns-clause-sound
returns-clause-sound c = refusal_sound

pub returns-clause-complete : goal.returns-clause-complete
returns-clause-complete c = refusal_complete

pub returns-clause-lines : goal.returns-clause-lines
returns-clause-lines c = line_codes

pub returns-clause-operands : goal.returns-clause-operands
returns-clause-operands c = operand_codes
