-- The bytes of an operand, which follow the function byte.
use Rattle.std.specs.Prelude.{◌≡◌, ℕ, ◌^◌, ◌<◌, ◌≤◌, List, take}
use Rattle.std.specs.Int.{w32, to_le_bytes}
use Rattle.instruction_set.specs.declared.instruction_table.forms.Form.{Form}
use Rattle.instruction_set.specs.declared.instruction_table.forms.Form.TheVariants.{Plain, Byte, BytePlus, Half, Word, Relative, Indirect, Switch}

-- the numbers that a form has room for; the forms with a target have none, and a switch has 0
abbrev pub HasRoom : Form → ℕ → Type 0
HasRoom (Plain k) n = n ≡ k
HasRoom Byte n = n < 2 ^ 8
HasRoom BytePlus n = (256 ≤ n) × (n < 512)
HasRoom Half n = n < 2 ^ 16
HasRoom Word n = n < 2 ^ 32
HasRoom Relative n = ⊥
HasRoom Indirect n = ⊥
HasRoom Switch n = n ≡ 0

-- the number of bytes that follow the function byte
abbrev pub operand_size : Form → ℕ
operand_size (Plain k) = 0
operand_size Byte = 1
operand_size BytePlus = 1
operand_size Half = 2
operand_size Word = 4
operand_size Relative = 1
operand_size Indirect = 1
operand_size Switch = 0

-- the lowest bytes of a word, as many as that, the lowest first
abbrev pub low_bytes : ℕ → ℕ → List ℕ
low_bytes count n = take count (to_le_bytes w32 n)

-- the bytes of an operand that is a number
abbrev pub operand_bytes : Form → ℕ → List ℕ
operand_bytes form n = low_bytes (operand_size form) n
