-- What is after a name.
use Rattle.std.specs.Prelude.{ℕ, ℤ, pos, negsuc, Bool, true, false, not, if◌then◌else◌, List, [], codes, Option, Some, None}
use Rattle.std.specs.Option.{option_map, option_map_or}
use Rattle.instruction_set.specs.declared.instruction_table.forms.Form.{Form}
use Rattle.instruction_set.specs.declared.instruction_table.forms.Form.TheVariants as form
use Rattle.assembly.specs.AssemblyText.Directives.{directive_named}
use Rattle.assembly.specs.AssemblyText.LineText.{instruction_named}
use Rattle.assembly.specs.AssemblyText.Names.{has_name_form}
use Rattle.assembly.specs.AssemblyText.Numbers.{is_from_to}
use Rattle.assembly.specs.declared.assembly_text.directives.Directive.{Directive}
use Rattle.assembly.specs.declared.assembly_text.directives.Directive.TheVariants as directive
use Rattle.assembly_errors.specs.declared.takes.Takes.{Takes}
use Rattle.assembly_errors.specs.declared.takes.Takes.TheVariants.{Nothing, Byte, BytePlus, Half, Word, DataByte, DataHalf, Boundary, Near, Indirect, Reserve, Address, Global}

-- what is after the name of an instruction of a form
abbrev pub taken_by_form : Form → Takes
taken_by_form (form.Plain k) = Nothing
taken_by_form form.Switch = Nothing
taken_by_form form.Byte = Byte
taken_by_form form.BytePlus = BytePlus
taken_by_form form.Half = Half
taken_by_form form.Word = Word
taken_by_form form.Relative = Near
taken_by_form form.Indirect = Indirect

-- what is after the name of a directive
abbrev pub directive_takes : Directive → Takes
directive_takes directive.Byte = DataByte
directive_takes directive.Half = DataHalf
directive_takes directive.Word = Word
directive_takes directive.Reserve = Reserve
directive_takes directive.Address = Address
directive_takes directive.Align = Boundary
directive_takes directive.Global = Global

-- what is after the name of an instruction, if it is one
abbrev pub instruction_takes : List ℕ → Option Takes
instruction_takes name = option_map (λ i. taken_by_form i.1) (instruction_named name)

-- what is after a name, if something has that name
abbrev pub taken_after : List ℕ → Option Takes
taken_after name =
    if not (has_name_form name) then None else
    option_map_or (λ d. Some (directive_takes d)) (directive_named name) (instruction_takes name)

-- whether it is a number of a range
abbrev pub is_number : Takes → Bool
is_number Byte = true
is_number BytePlus = true
is_number Half = true
is_number Word = true
is_number DataByte = true
is_number DataHalf = true
is_number t = false

-- whether it may be this number
abbrev pub is_within : Takes → ℤ → Bool
is_within Byte n = is_from_to (pos 0) (pos 255) n
is_within BytePlus n = is_from_to (pos 256) (pos 511) n
is_within Half n = is_from_to (pos 0) (pos 65535) n
is_within Word n = is_from_to (negsuc 2147483647) (pos 4294967295) n
is_within DataByte n = is_from_to (negsuc 127) (pos 255) n
is_within DataHalf n = is_from_to (negsuc 32767) (pos 65535) n
is_within t n = false

-- its range, in words
abbrev pub range_text : Takes → List ℕ
range_text Byte = codes "0 to 255"
range_text BytePlus = codes "256 to 511"
range_text Half = codes "0 to 65535"
range_text Word = codes "-2147483648 to 4294967295"
range_text DataByte = codes "-128 to 255"
range_text DataHalf = codes "-32768 to 65535"
range_text t = []

-- what it is, in words
abbrev pub operand_text : Takes → List ℕ
operand_text Nothing = codes "nothing"
operand_text Byte = codes "a number from 0 to 255"
operand_text BytePlus = codes "a number from 256 to 511"
operand_text Half = codes "a number from 0 to 65535"
operand_text Word = codes "a number from -2147483648 to 4294967295"
operand_text DataByte = codes "a number from -128 to 255"
operand_text DataHalf = codes "a number from -32768 to 65535"
operand_text Boundary = codes "the number 2 or 4"
operand_text Global = codes "a number from 1 to 1000 and a label"
operand_text t = codes "a label"
