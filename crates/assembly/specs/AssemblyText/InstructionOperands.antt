-- The operands of an instruction whose operand is a number.
use Rattle.std.specs.Prelude.{ℕ, pos}
use Rattle.instruction_set.specs.declared.instruction_table.forms.Form.{Form}
use Rattle.instruction_set.specs.declared.instruction_table.forms.Form.TheVariants.{Plain, Switch}
use Rattle.assembly.specs.declared.assembly_text.operands.Operands.{Operands}
use Rattle.assembly.specs.declared.assembly_text.operands.Operands.TheVariants.{Nothing, Number}

-- nothing, where the number is in the name, and else the number
abbrev pub operands_with : Form → ℕ → Operands
operands_with (Plain k) n = Nothing
operands_with Switch n = Nothing
operands_with _ n = Number (pos n)
