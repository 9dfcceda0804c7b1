-- The instruction at a byte address, or the first thing that is wrong there.
use Rattle.std.specs.Prelude.{ℕ, ◌+◌, ◌*◌, [], ◌∷◌, Option, Result, Ok}
use Rattle.std.specs.Int.{w16, w32, from_le_bytes}
use Rattle.std.specs.Option.{ok_or}
use Rattle.word_store.specs.Arithmetic.{add}
use Rattle.instruction_set.specs.declared.instruction_table.forms.Form.{Form}
use Rattle.instruction_set.specs.declared.instruction_table.forms.Form.TheVariants.{Plain, Byte, BytePlus, Half, Word, Relative, Indirect, Switch}
use Rattle.instruction_set.specs.InstructionTable.Table.{entry}
use Rattle.instruction_set.specs.declared.operand_forms.instructions.DecodeEnd.{DecodeEnd}
use Rattle.instruction_set.specs.declared.operand_forms.instructions.DecodeEnd.TheVariants.{Outside, Undefined, Halfword}
use Rattle.instruction_set.specs.declared.operand_forms.instructions.Instr.{Instr}
use Rattle.instruction_set.specs.declared.operand_forms.fetch.Operand.{Operand}
use Rattle.instruction_set.specs.OperandForms.Even.{even_below}
use Rattle.instruction_set.specs.OperandForms.Offset.{byte_offset, half_offset}
use Rattle.instruction_set.specs.OperandForms.Steps.{◌>>=◌}

-- The byte at an address. Code is a function that gives the byte at a byte address, where it is inside.
abbrev pub byte_or_outside : (ℕ → Option ℕ) → ℕ → Result ℕ DecodeEnd
byte_or_outside code a = ok_or (code a) (Outside a)

-- the two bytes from an address on, the lowest first
abbrev pub half_at : (ℕ → Option ℕ) → ℕ → Result ℕ DecodeEnd
half_at code a = do
  low ← byte_or_outside code a
  high ← byte_or_outside code (add a 1)
  Ok (from_le_bytes w16 (low ∷ high ∷ []))

-- the four bytes from an address on, the lowest first
abbrev pub word_at : (ℕ → Option ℕ) → ℕ → Result ℕ DecodeEnd
word_at code a = do
  first ← byte_or_outside code a
  second ← byte_or_outside code (add a 1)
  third ← byte_or_outside code (add a 2)
  fourth ← byte_or_outside code (add a 3)
  Ok (from_le_bytes w32 (first ∷ second ∷ third ∷ fourth ∷ []))

-- a byte of the halfword of an indirect form
abbrev pub halfword_byte : (ℕ → Option ℕ) → ℕ → Result ℕ DecodeEnd
halfword_byte code a = ok_or (code a) (Halfword a)

-- the halfword of an indirect form, as a signed number
abbrev pub halfword_offset : (ℕ → Option ℕ) → ℕ → Result ℕ DecodeEnd
halfword_offset code a = do
  low ← halfword_byte code a
  high ← halfword_byte code (add a 1)
  Ok (half_offset (from_le_bytes w16 (low ∷ high ∷ [])))

-- an operand that is a number, in an instruction of that length
abbrev pub number_operand : ℕ → ℕ → Operand
number_operand n length = record { number = n; length = length; target = 0 }

-- an operand that leads to a target
abbrev pub target_operand : ℕ → Operand
target_operand t = record { number = 0; length = 2; target = t }

-- where the halfword of an indirect form is, whose operand byte is b
abbrev pub halfword_place : ℕ → ℕ → ℕ
halfword_place pc b = even_below (add (add pc 1) (2 * b))

-- the operand of a form, after the function byte at pc
abbrev pub operand_at : (ℕ → Option ℕ) → ℕ → Form → Result Operand DecodeEnd
operand_at code pc (Plain n) = Ok (number_operand n 1)
operand_at code pc Byte = do
  n ← byte_or_outside code (add pc 1)
  Ok (number_operand n 2)
operand_at code pc BytePlus = do
  n ← byte_or_outside code (add pc 1)
  Ok (number_operand (n + 256) 2)
operand_at code pc Half = do
  n ← half_at code (add pc 1)
  Ok (number_operand n 3)
operand_at code pc Word = do
  n ← word_at code (add pc 1)
  Ok (number_operand n 5)
operand_at code pc Relative = do
  b ← byte_or_outside code (add pc 1)
  Ok (target_operand (add (add pc 1) (byte_offset b)))
operand_at code pc Indirect = do
  b ← byte_or_outside code (add pc 1)
  offset ← halfword_offset code (halfword_place pc b)
  Ok (target_operand (add (halfword_place pc b) offset))
operand_at code pc Switch = Ok (number_operand 0 1)

-- the checks in their order
abbrev pub decoded : (ℕ → Option ℕ) → ℕ → Result Instr DecodeEnd
decoded code pc = do
  byte ← byte_or_outside code pc
  row ← ok_or (entry byte) (Undefined pc)
  operand ← operand_at code pc row.form
  Ok (record { byte = byte; effect = row.effect; operand = operand.number; length = operand.length; target = operand.target })
