-- A line, read: the label that it defines, and what else it says.
use Rattle.std.specs.Prelude.{ℕ, ℤ, pos, negsuc, ◌-◌, not, if◌then◌else◌, List, [], ◌∷◌, ◌++◌, length, take, codes, nat_eq, Option, Some, None, Result, Ok, Err, option_and_then}
use Rattle.std.specs.List.{ends_with}
use Rattle.std.specs.Option.{ok_or, option_map, option_map_or}
use Rattle.instruction_set.specs.InstructionTable.Names.{byte_named}
use Rattle.instruction_set.specs.InstructionTable.Operand.{low_bytes, operand_size}
use Rattle.instruction_set.specs.InstructionTable.Table.{entry}
use Rattle.instruction_set.specs.declared.instruction_table.forms.Form.{Form}
use Rattle.instruction_set.specs.declared.instruction_table.forms.Form.TheVariants.{Plain, Byte, BytePlus, Half, Word, Relative, Indirect, Switch}
use Rattle.assembly.specs.AssemblyText.Directives.{directive_named}
use Rattle.assembly.specs.AssemblyText.Names.{has_name_form, label_of}
use Rattle.assembly.specs.AssemblyText.Numbers.{is_from_to, word_of}
use Rattle.assembly.specs.AssemblyText.Operands.{label_operand, no_operand, number_operand, numbered_label, operands_of, unknown_name}
use Rattle.assembly.specs.AssemblyText.Parts.{parts_of, without_comment}
use Rattle.module_text.specs.TextReader.Steps.{◌>>=◌}
use Rattle.assembly.specs.declared.assembly_text.directives.Directive.{Directive}
use Rattle.assembly.specs.declared.assembly_text.directives.Directive.TheVariants as directive
use Rattle.assembly.specs.declared.assembly_text.errors.LineError.{LineError}
use Rattle.assembly.specs.declared.assembly_text.errors.LineError.TheVariants.{NoForm, OutOfRange}
use Rattle.assembly.specs.declared.assembly_text.operands.Operands.{Operands}
use Rattle.assembly.specs.declared.assembly_text.statements.Boundary.TheVariants as boundary
use Rattle.assembly.specs.declared.assembly_text.statements.Line.{Line}
use Rattle.assembly.specs.declared.assembly_text.statements.Statement.{Statement}
use Rattle.assembly.specs.declared.assembly_text.statements.Statement.TheVariants as says

-- the number that the operands are, where it is from low to high
abbrev pub number_from_to : ℤ → ℤ → Operands → Result ℤ LineError
number_from_to low high operands = do
  n ← number_operand operands
  if is_from_to low high n then Ok n else Err OutOfRange

-- these bytes, and then those of the number
abbrev pub with_number : List ℕ → ℕ → ℤ → ℤ → Operands → Result Statement LineError
with_number front count low high operands = do
  n ← number_from_to low high operands
  Ok (says.Fixed (front ++ low_bytes count (word_of n)))

-- an instruction, by the form of its operand
abbrev pub instruction : ℕ → Form → Operands → Result Statement LineError
instruction byte (Plain k) operands = do
  nothing ← no_operand operands
  Ok (says.Fixed (byte ∷ []))
instruction byte Switch operands = do
  nothing ← no_operand operands
  Ok (says.Fixed (byte ∷ []))
instruction byte Byte operands = with_number (byte ∷ []) (operand_size Byte) (pos 0) (pos 255) operands
instruction byte BytePlus operands = with_number (byte ∷ []) (operand_size BytePlus) (pos 256) (pos 511) operands
instruction byte Half operands = with_number (byte ∷ []) (operand_size Half) (pos 0) (pos 65535) operands
instruction byte Word operands = with_number (byte ∷ []) (operand_size Word) (negsuc 2147483647) (pos 4294967295) operands
instruction byte Relative operands = do
  label ← label_operand operands
  Ok (says.Relative byte label)
instruction byte Indirect operands = do
  label ← label_operand operands
  Ok (says.Indirect byte label)

-- where to align
abbrev pub align : ℤ → Result Statement LineError
align n =
    if is_from_to (pos 2) (pos 2) n then Ok (says.Align boundary.Half) else
    if is_from_to (pos 4) (pos 4) n then Ok (says.Align boundary.Word) else
    Err OutOfRange

-- a global and the label that gives its value
abbrev pub global : ℤ → List ℕ → Result Statement LineError
global n label = if is_from_to (pos 1) (pos 1000) n then Ok (says.Global (word_of n) label) else Err OutOfRange

-- a line that has no instruction
abbrev pub directed : Directive → Operands → Result Statement LineError
directed directive.Byte operands = with_number [] 1 (negsuc 127) (pos 255) operands
directed directive.Half operands = with_number [] 2 (negsuc 32767) (pos 65535) operands
directed directive.Word operands = with_number [] 4 (negsuc 2147483647) (pos 4294967295) operands
directed directive.Reserve operands = do
  label ← label_operand operands
  Ok (says.Reserve label)
directed directive.Address operands = do
  label ← label_operand operands
  Ok (says.Address label)
directed directive.Align operands = do
  n ← number_operand operands
  align n
directed directive.Global operands = do
  both ← numbered_label operands
  global both.0 both.1

-- the byte of an instruction's name, and the form of its operand
abbrev pub instruction_named : List ℕ → Option (ℕ × Form)
instruction_named name = option_and_then (λ byte. option_map (λ e. (byte, e.form)) (entry byte)) (byte_named name)

-- a name and its operands
abbrev pub statement_named : List ℕ → Operands → Result Statement LineError
statement_named name operands =
    if not (has_name_form name) then Err NoForm else
    option_map_or
    (λ d. directed d operands)
    (directive_named name)
    (option_map_or (λ i. instruction i.0 i.1 operands) (instruction_named name) (Err (unknown_name operands)))

-- what the parts after the label say
abbrev pub statement_of : List (List ℕ) → Result Statement LineError
statement_of [] = Ok (says.Fixed [])
statement_of (name ∷ parts) = statement_named name (operands_of parts)

-- what comes before the colon, if a part ends with one
abbrev pub before_colon : List ℕ → Option (List ℕ)
before_colon part = if ends_with nat_eq part (codes ":") then Some (take (length part - 1) part) else None

-- a line with a label
abbrev pub labelled : List ℕ → List (List ℕ) → Result Line LineError
labelled name parts = do
  label ← ok_or (label_of name) NoForm
  statement ← statement_of parts
  Ok (record { label = Some label; statement = statement })

-- a line without a label
abbrev pub unlabelled : List (List ℕ) → Result Line LineError
unlabelled parts = do
  statement ← statement_of parts
  Ok (record { label = None; statement = statement })

-- the parts of a line, read: the first part is a label where it ends with a colon
abbrev pub line_of_parts : List (List ℕ) → Result Line LineError
line_of_parts [] = unlabelled []
line_of_parts (part ∷ parts) = option_map_or (λ name. labelled name parts) (before_colon part) (unlabelled (part ∷ parts))

-- a line, or what is wrong with it
unfoldable pub line_of : List ℕ → Result Line LineError
line_of line = line_of_parts (parts_of (without_comment line))
