-- The listing of code as a text of assembly, with labels in the place of the addresses.
use Rattle.std.specs.Prelude.{ℕ, Bool, if◌then◌else◌, List, [], ◌∷◌, ◌++◌, Option, Some, Result, Ok, codes, decimal, map, unwrap_or}
use Rattle.std.specs.List.{join_with_byte}
use Rattle.module_text.specs.TextReader.Lines.{text_of_lines}
use Rattle.instruction_set.specs.InstructionTable.Table.{Entry, entry}
use Rattle.instruction_set.specs.declared.instruction_table.forms.Form.{Form}
use Rattle.instruction_set.specs.declared.instruction_table.forms.Form.TheVariants.{Plain, Byte, BytePlus, Half, Word, Relative, Indirect, Switch}
use Rattle.instruction_set.specs.OperandForms.Decoded.{decoded}
use Rattle.instruction_set.specs.declared.operand_forms.instructions.DecodeEnd.{DecodeEnd}
use Rattle.instruction_set.specs.declared.operand_forms.instructions.Instr.{Instr}
use Rattle.assembly.specs.ModuleListing.Cover.{ListedLine}

-- the label of a byte offset
abbrev pub label : ℕ → List ℕ
label a = codes "L" ++ decimal a

-- the operand of an instruction, by its form: a number as it is listed, and the label of a target
abbrev pub operand_parts : Form → Instr → List (List ℕ)
operand_parts (Plain k) i = []
operand_parts Byte i = decimal i.operand ∷ []
operand_parts BytePlus i = decimal i.operand ∷ []
operand_parts Half i = decimal i.operand ∷ []
operand_parts Word i = decimal i.operand ∷ []
operand_parts Relative i = label i.target ∷ []
operand_parts Indirect i = label i.target ∷ []
operand_parts Switch i = []

-- the byte's row and what is decoded there, or else the byte alone, as it is listed
abbrev pub parts_as : Option Entry → Result Instr DecodeEnd → ℕ → List (List ℕ)
parts_as (Some row) (Ok i) byte = row.name ∷ operand_parts row.form i
parts_as _ _ byte = codes "DB" ∷ decimal byte ∷ []

-- the parts of the assembly line for what is at an address
abbrev pub parts_of_byte : (ℕ → Option ℕ) → ℕ → ℕ → List (List ℕ)
parts_of_byte code a byte = parts_as (entry byte) (decoded code a) byte

-- the parts of the line at an offset, after its label
abbrev pub parts_at : (ℕ → Option ℕ) → ℕ → List (List ℕ)
parts_at code a = parts_of_byte code a (unwrap_or (code a) 0)

-- the line at an offset, with its label in front or without
abbrev pub source_line : Bool → (ℕ → Option ℕ) → ℕ → List ℕ
source_line has_label code a =
    join_with_byte 32 (if has_label then (label a ++ codes ":") ∷ parts_at code a else parts_at code a)

-- the text of these lines, where the offsets that are told have labels
abbrev pub source : (ℕ → Bool) → (ℕ → Option ℕ) → List ListedLine → List ℕ
source has_label code lines = text_of_lines (map (λ line. source_line (has_label line.offset) code line.offset) lines)
