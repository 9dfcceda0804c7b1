-- What is said of names that nothing has, and of numbers that are out of range.
use Rattle.std.specs.Prelude.{ℕ, ℤ, negsuc, ◌-◌, ◌==◌, ◌&&◌, ◌||◌, Bool, true, false, not, if◌then◌else◌, List, [], ◌∷◌, ◌++◌, length, take, drop, min, codes, is_some, nat_eq, Option, Some, None, option_and_then}
use Rattle.std.specs.List.{range_with_len, starts_with}
use Rattle.std.specs.Option.{option_map_or}
use Rattle.std.specs.Str.{bytes_eq}
use Rattle.byte_streams.specs.Pieces.{joined}
use Rattle.instruction_set.specs.InstructionTable.Table.{Entry, entry}
use Rattle.assembly.specs.AssemblyText.LineText.{before_colon}
use Rattle.assembly.specs.AssemblyText.Numbers.{is_from_to, number_of}
use Rattle.assembly_errors.specs.OperandWords.{is_global, is_label_part, no_form_remark, takes_number, unknown_remark}
use Rattle.assembly_errors.specs.NumberWords.{unsigned_part}
use Rattle.assembly_errors.specs.Parts.{next_part, parts_from}
use Rattle.assembly_errors.specs.Remarks.{Remark, said_of}
use Rattle.assembly_errors.specs.Takes.{is_within, range_text, taken_after, taken_by_form}
use Rattle.assembly_errors.specs.declared.name_words.NamedLine.{NamedLine}
use Rattle.assembly_errors.specs.declared.name_words.TakingName.{TakingName}
use Rattle.assembly_errors.specs.declared.parts.Part.{Part}
use Rattle.assembly_errors.specs.declared.takes.Takes.{Takes}
use Rattle.assembly_errors.specs.declared.takes.Takes.TheVariants.{BytePlus, Half, Word, DataByte, DataHalf, Boundary}

-- ---- the name of a line

-- this part is a label
abbrev pub begins_with_label : Option Part → Bool
begins_with_label None = false
begins_with_label (Some part) = is_some (before_colon part.text)

-- the name at the begin of what is left of a line, and its operands
abbrev pub name_after : List ℕ → List ℕ → Bool → NamedLine
name_after code rest is_labelled = record {
  name = (next_part code rest).part;
  operands = parts_from code (next_part code rest).rest;
  is_labelled = is_labelled;
}

-- the name of a line, its operands, and whether a label is before it
unfoldable pub named_line : List ℕ → NamedLine
named_line code =
    if begins_with_label (next_part code code).part then name_after code (next_part code code).rest true else name_after code code false

-- ---- a name that nothing has

-- a name after which comes no number
abbrev pub takes_no_number : List ℕ → Bool
takes_no_number name = option_map_or (λ takes. not (takes_number takes)) (taken_after name) false

-- a name that nothing has
abbrev pub plain_name_remark : Part → Remark
plain_name_remark name = unknown_remark name (codes "there is no instruction and no directive " ∷ name.text ∷ [])

-- the same, where this follows
abbrev pub first_name_remark : Part → Part → Bool → Remark
first_name_remark name first is_labelled =
    if not is_labelled && is_label_part name.text && takes_no_number first.text then
    said_of
    name.column
    (codes "there is no instruction and no directive " ∷ name.text ∷ codes "; a label has a colon after it: " ∷ name.text ∷ codes ": " ∷ first.text ∷ [])
    else
    plain_name_remark name

-- the same, by what follows
abbrev pub name_by : Part → Bool → Option Part → Remark
name_by name is_labelled None = plain_name_remark name
name_by name is_labelled (Some first) = first_name_remark name first is_labelled

-- the same, of this name
abbrev pub unknown_name_remark : Part → NamedLine → Remark
unknown_name_remark name line = name_by name line.is_labelled line.operands.first

-- a line whose name nothing has, by its name
abbrev pub name_remark_by : NamedLine → Option Part → Remark
name_remark_by line None = no_form_remark
name_remark_by line (Some name) = unknown_name_remark name line

-- a line whose name nothing has
abbrev pub name_remark : NamedLine → Remark
name_remark line = name_remark_by line line.name

-- ---- a number out of range

-- a part is a number within a range
unfoldable pub holds_part : Takes → List ℕ → Bool
holds_part takes part = option_map_or (is_within takes) (number_of part) false

-- a line of data that holds the number
abbrev pub wider_data : List ℕ → Option TakingName
wider_data part =
    if holds_part DataHalf part then Some (record { name = codes "DH"; takes = DataHalf }) else
    if holds_part Word part then Some (record { name = codes "DW"; takes = Word }) else
    None

-- these tell the width of an operand, or are none
abbrev pub tells_width : List ℕ → Bool
tells_width letters = length letters == 0 || bytes_eq letters (codes "1") || bytes_eq letters (codes "H") || bytes_eq letters (codes "W")

-- a name is that of the family, and what tells the width
abbrev pub is_of_family : List ℕ → List ℕ → Bool
is_of_family family name = starts_with nat_eq name family && tells_width (drop (min (length family) (length name)) name)

-- a row of the table, where it is of the family and takes the number
abbrev pub wider_row : List ℕ → List ℕ → Entry → Option TakingName
wider_row family part e =
    if is_of_family family e.name && holds_part (taken_by_form e.form) part then Some (record { name = e.name; takes = taken_by_form e.form }) else None

-- the instruction with a byte, where it is of the family and takes the number
unfoldable pub wider_at : List ℕ → List ℕ → ℕ → Option TakingName
wider_at family part byte = option_and_then (wider_row family part) (entry byte)

-- the first that is found at these bytes
abbrev pub first_taking : (ℕ → Option TakingName) → List ℕ → Option TakingName
first_taking f [] = None
first_taking f (byte ∷ bytes) = option_map_or Some (f byte) (first_taking f bytes)

-- the first instruction of the family, among so many bytes from this one on, that takes the number
unfoldable pub wider_from : List ℕ → List ℕ → ℕ → ℕ → Option TakingName
wider_from family part byte count = first_taking (wider_at family part) (range_with_len byte count)

-- the first instruction of the family, by its byte, that takes the number
abbrev pub wider_instruction : List ℕ → List ℕ → Option TakingName
wider_instruction family part = wider_from family part 0 256

-- all but the last byte
abbrev pub without_last : List ℕ → List ℕ
without_last name = take (length name - 1) name

-- what the names have in common that do the same as this one, which takes this
abbrev pub family_of : Takes → List ℕ → List ℕ
family_of BytePlus name = without_last name
family_of Half name = without_last name
family_of takes name = name

-- a name like this one that takes the number
unfoldable pub wider : Takes → List ℕ → List ℕ → Option TakingName
wider DataByte name part = wider_data part
wider DataHalf name part = wider_data part
wider takes name part = wider_instruction (family_of takes name) part

-- this name takes the number, in words
abbrev pub taking_name_text : TakingName → List ℕ
taking_name_text w = joined (codes "; " ∷ w.name ∷ codes " has one from " ∷ range_text w.takes ∷ [])

-- the name that takes the number, in words, if there is one
abbrev pub wider_name_text : Option TakingName → List ℕ
wider_name_text None = []
wider_name_text (Some w) = taking_name_text w

-- which name takes this number, in words
abbrev pub wider_than_text : Takes → List ℕ → List ℕ → ℤ → List ℕ
wider_than_text takes name part n =
    if bytes_eq name (codes "L") && is_from_to (negsuc 254) (negsuc 0) n then
    joined (codes "; LM " ∷ unsigned_part part ∷ codes " loads " ∷ part ∷ [])
    else
    wider_name_text (wider takes name part)

-- which name takes the number, in words
abbrev pub wider_text : Takes → List ℕ → List ℕ → List ℕ
wider_text takes name part = option_map_or (wider_than_text takes name part) (number_of part) []

-- a number that is out of this range, without another name
abbrev pub outside_remark : Takes → Part → Part → Remark
outside_remark takes name first =
    said_of first.column (first.text ∷ codes " is out of range: " ∷ name.text ∷ codes " has a number from " ∷ range_text takes ∷ [])

-- a number that is out of this range
abbrev pub ranged_remark : Takes → Part → Part → Remark
ranged_remark takes name first = record {
  column = (outside_remark takes name first).column;
  words = (outside_remark takes name first).words ++ wider_text takes name.text first.text;
}

-- what is aligned to is after a name
abbrev pub is_boundary : Takes → Bool
is_boundary Boundary = true
is_boundary takes = false

-- a number that is out of range after ALIGN
abbrev pub boundary_remark : Part → Remark
boundary_remark first = said_of first.column (first.text ∷ codes " is out of range: ALIGN has the number 2 or 4" ∷ [])

-- a number that is out of range after GLOBAL
abbrev pub global_remark : Part → Remark
global_remark first = said_of first.column (first.text ∷ codes " is out of range: GLOBAL has a number from 1 to 1000" ∷ [])

-- a number that is out of range, after a name that takes this
abbrev pub taken_number_remark : Takes → Part → Part → Remark
taken_number_remark takes name first =
    if is_boundary takes then boundary_remark first else
    if is_global takes then global_remark first else
    ranged_remark takes name first

-- a number that is out of range, after a name
abbrev pub number_remark : Part → Part → Remark
number_remark name first = option_map_or (λ takes. taken_number_remark takes name first) (taken_after name.text) no_form_remark

-- a number that is out of range, by the name and the number
abbrev pub range_remark_by : Option Part → Option Part → Remark
range_remark_by (Some name) (Some first) = number_remark name first
range_remark_by None first = no_form_remark
range_remark_by (Some name) None = no_form_remark

-- a line whose number is out of range
abbrev pub range_remark : NamedLine → Remark
range_remark line = range_remark_by line.name line.operands.first
