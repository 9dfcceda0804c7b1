-- Labels at which an instruction takes a word.
use Rattle.std.specs.Prelude.{ℕ, ◌%◌, ◌==◌, ◌||◌, Bool, not, if◌then◌else◌, List, [], ◌∷◌, codes, decimal, Option, Some, None, option_and_then}
use Rattle.std.specs.Str.{bytes_eq}
use Rattle.byte_streams.specs.Pieces.{joined}
use Rattle.assembly.specs.AssemblyText.Labels.{Table}
use Rattle.assembly.specs.declared.assembly_text.places.Place.{Place}
use Rattle.assembly_errors.specs.declared.parts.Part.{Part}
use Rattle.tool_texts.specs.Reports.{Report}
use Rattle.assembly_notes.specs.NamedTexts.{note}
use Rattle.assembly_notes.specs.declared.named_texts.NamedText.{NamedText}

-- an instruction of this name takes the word at its label, or its address
abbrev pub takes_word : List ℕ → Bool
takes_word name = bytes_eq name (codes "LLL") || bytes_eq name (codes "LL") || bytes_eq name (codes "SL")

-- the byte of a place, where it is no multiple of 4
abbrev pub byte_inside : Place → Option ℕ
byte_inside place = if not (place.offset % 4 == 0) then Some place.offset else None

-- the byte at which a label is, where that is no multiple of 4
abbrev pub inner_byte : Table → List ℕ → Option ℕ
inner_byte table label = option_and_then byte_inside (table label)

-- the label of a line, which is at this byte
abbrev pub byte_note : NamedText → Part → ℕ → Report
byte_note line label byte =
    note
    line
    label.column
    (joined (line.name ∷ codes " takes a whole word, and " ∷ label.text ∷ codes " is at byte " ∷ decimal byte
    ∷ codes ", which is no multiple of 4; ALIGN 4 before it makes it one" ∷ []))

-- the label of a line, by the byte at which it is
abbrev pub label_notes_by : NamedText → Part → Option ℕ → List Report
label_notes_by line label (Some byte) = byte_note line label byte ∷ []
label_notes_by line label None = []

-- the label of a line
abbrev pub label_notes : Table → NamedText → Part → List Report
label_notes table line label = label_notes_by line label (inner_byte table label.text)

-- the label of a line, if there is one
abbrev pub operand_notes : Table → NamedText → Option Part → List Report
operand_notes table line (Some label) = label_notes table line label
operand_notes table line None = []

-- what is strange of the label of a line
abbrev pub word_notes : Table → NamedText → Option Part → List Report
word_notes table line operand = if takes_word line.name then operand_notes table line operand else []
