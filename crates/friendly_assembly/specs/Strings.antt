-- Strings: `DS` and a text in quotes.
use Rattle.std.specs.Prelude.{ℕ, not, if◌then◌else◌, List, [], ◌∷◌, ◌++◌, length, drop, codes, decimal, nat_eq, nat_lt, Option, Some, None}
use Rattle.std.specs.List.{flat_map, starts_with}
use Rattle.std.specs.Str.{bytes_eq}
use Rattle.byte_streams.specs.Pieces.{joined}
use Rattle.friendly_assembly.specs.declared.flaws.Flaw.{Flaw}
use Rattle.friendly_assembly.specs.declared.flaws.Wrong.TheVariants.{LongString, StringForm, UnlabelledString}
use Rattle.friendly_assembly.specs.declared.parts.Part.{Part}
use Rattle.friendly_assembly.specs.LineLabels.{labels_in, said_in}
use Rattle.friendly_assembly.specs.Parts.{parts_of}
use Rattle.friendly_assembly.specs.Quotes.{codes_in, flaw, quote_flaw, quoted}
use Rattle.friendly_assembly.specs.Readings.{code_of}

-- a string of so many characters
abbrev pub length_flaw : ℕ → ℕ → Option Flaw
length_flaw column count = if nat_lt 255 count then Some (flaw column (LongString count)) else None

-- a string, where nothing is wrong in its quotes
abbrev pub string_length_flaw : Part → Option Flaw → Option Flaw
string_length_flaw part (Some wrong) = Some wrong
string_length_flaw part None = length_flaw part.column (length (codes_in (quoted part.text)))

-- `DS` with one operand
abbrev pub text_flaw : Part → Part → Option Flaw
text_flaw word part =
    if not (starts_with nat_eq part.text (34 ∷ [])) then Some (flaw word.column StringForm) else
    string_length_flaw part (quote_flaw 34 part.column 1 (drop 1 part.text))

-- `DS` with its operands
abbrev pub operands_flaw : Part → List Part → Option Flaw
operands_flaw word (part ∷ []) = text_flaw word part
operands_flaw word _ = Some (flaw word.column StringForm)

-- what is wrong in a string
abbrev pub string_flaw : List Part → Part → List Part → Option Flaw
string_flaw [] word operands = Some (flaw word.column UnlabelledString)
string_flaw (label ∷ others) word operands = operands_flaw word operands

-- a line for a character
unfoldable pub code_line : ℕ → List ℕ
code_line c = joined (codes "        DB " ∷ decimal c ∷ codes "\n" ∷ [])

-- the place of a string, and its label with the number of its characters
unfoldable pub head_lines : List ℕ → ℕ → List ℕ
head_lines label count = joined (codes "        ALIGN 4\n" ∷ label ∷ codes " DB " ∷ decimal count ∷ codes "\n" ∷ [])

-- the lines of a string: these, and one for each character
abbrev pub lines_of_string : List ℕ → List ℕ → List ℕ
lines_of_string label characters = head_lines label (length characters) ++ flat_map code_line characters

-- the lines of the string of a line, where this is one
abbrev pub string_lines_by : List Part → List Part → List ℕ
string_lines_by (label ∷ labels) (word ∷ part ∷ []) =
    if bytes_eq word.text (codes "DS") then lines_of_string label.text (codes_in (quoted part.text)) else []
string_lines_by labels said = []

-- the same of the bytes before a comment
abbrev pub string_lines : List ℕ → List ℕ
string_lines line = string_lines_by (labels_in (parts_of (code_of line))) (said_in (parts_of (code_of line)))
