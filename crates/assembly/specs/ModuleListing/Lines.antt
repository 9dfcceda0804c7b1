-- The text of one line. Each begins with the byte address of the instruction.
use Rattle.std.specs.Prelude.{ℕ, List, [], ◌∷◌, codes, decimal}
use Rattle.std.specs.Fmt.{signed_decimal}
use Rattle.byte_streams.specs.Pieces.{joined}
use Rattle.word_store.specs.Arithmetic.{signed}
use Rattle.instruction_set.specs.declared.instruction_table.forms.Form.{Form}
use Rattle.instruction_set.specs.declared.instruction_table.forms.Form.TheVariants.{Plain, Byte, BytePlus, Half, Word, Relative, Indirect, Switch}
use Rattle.instruction_set.specs.declared.operand_forms.instructions.Instr.{Instr}

-- a name alone
abbrev pub plain_line : ℕ → List ℕ → List ℕ
plain_line a name = joined (decimal a ∷ codes " " ∷ name ∷ codes "\n" ∷ [])

-- a name and a number
abbrev pub number_line : ℕ → List ℕ → ℕ → List ℕ
number_line a name n = joined (decimal a ∷ codes " " ∷ name ∷ codes " " ∷ decimal n ∷ codes "\n" ∷ [])

-- a name and a target
abbrev pub target_line : ℕ → List ℕ → ℕ → List ℕ
target_line a name t = joined (decimal a ∷ codes " " ∷ name ∷ codes " " ∷ signed_decimal (signed t) ∷ codes "\n" ∷ [])

-- a byte that begins no instruction
abbrev pub byte_line : ℕ → ℕ → List ℕ
byte_line a byte = joined (decimal a ∷ codes " DB " ∷ decimal byte ∷ codes "\n" ∷ [])

-- an instruction, by its form
abbrev pub instruction_line : Form → ℕ → List ℕ → Instr → List ℕ
instruction_line (Plain n) a name i = plain_line a name
instruction_line Byte a name i = number_line a name i.operand
instruction_line BytePlus a name i = number_line a name i.operand
instruction_line Half a name i = number_line a name i.operand
instruction_line Word a name i = number_line a name i.operand
instruction_line Relative a name i = target_line a name i.target
instruction_line Indirect a name i = target_line a name i.target
instruction_line Switch a name i = plain_line a name
