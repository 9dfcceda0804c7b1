-- What is listed at a byte address.
use Rattle.std.specs.Prelude.{ℕ, List, Option, Some, Result, Ok, unwrap_or}
use Rattle.instruction_set.specs.InstructionTable.Table.{Entry, entry}
use Rattle.instruction_set.specs.OperandForms.Decoded.{decoded}
use Rattle.instruction_set.specs.declared.operand_forms.instructions.DecodeEnd.{DecodeEnd}
use Rattle.instruction_set.specs.declared.operand_forms.instructions.Instr.{Instr}
use Rattle.assembly.specs.ModuleListing.Lines.{byte_line, instruction_line}

-- a line, and the number of bytes that it stands for
pub record Listed : Type 0 where
  -- the text of the line
  pub text : List ℕ
  -- how many bytes it stands for
  pub length : ℕ

-- the byte's row and what is decoded there, or else the byte alone
abbrev pub listed_as : Option Entry → Result Instr DecodeEnd → ℕ → ℕ → Listed
listed_as (Some row) (Ok i) a byte = record { text = instruction_line row.form a row.name i; length = i.length }
listed_as _ _ a byte = record { text = byte_line a byte; length = 1 }

-- the line for the byte at an address, and how many bytes it is for: an instruction, or that byte alone
abbrev pub listed_byte : (ℕ → Option ℕ) → ℕ → ℕ → Listed
listed_byte code a byte = listed_as (entry byte) (decoded code a) a byte

-- the line at address a, where a byte is
abbrev pub listed : (ℕ → Option ℕ) → ℕ → Listed
listed code a = listed_byte code a (unwrap_or (code a) 0)
