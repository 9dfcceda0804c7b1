-- Bytes that are in code, and the instructions that they make.
use Rattle.std.specs.Prelude.{◌≡◌, ℕ, ◌+◌, List, [], ◌∷◌, length, Option, Some}
use Rattle.word_store.specs.Arithmetic.{add}
use Rattle.instruction_set.specs.InstructionTable.Operand.{operand_bytes}
use Rattle.instruction_set.specs.InstructionTable.Table.{Entry}
use Rattle.instruction_set.specs.declared.operand_forms.instructions.Instr.{Instr}

-- the bytes are in the code from an address on
abbrev pub HasBytesAt : (ℕ → Option ℕ) → ℕ → List ℕ → Type 0
HasBytesAt code a [] = Unit {0}
HasBytesAt code a (b ∷ bs) = (code a ≡ Some b) × HasBytesAt code (add a 1) bs

-- the instruction of a function byte and its row, with a number
abbrev pub with_number : ℕ → Entry → ℕ → Instr
with_number byte row n = record { byte = byte; effect = row.effect; operand = n; length = 1 + length (operand_bytes row.form n); target = 0 }

-- the same with a target
abbrev pub with_target : ℕ → Entry → ℕ → Instr
with_target byte row t = record { byte = byte; effect = row.effect; operand = 0; length = 2; target = t }
