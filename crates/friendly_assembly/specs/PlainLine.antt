-- The plain line that a line becomes.
use Rattle.std.specs.Prelude.{ℕ, ◌+◌, ◌-◌, ◌==◌, ◌&&◌, ◌||◌, not, Bool, false, if◌then◌else◌, List, [], ◌∷◌, ◌++◌, length, drop, map, replicate, codes, nat_eq, nat_le}
use Rattle.std.specs.List.{ends_with, list_all, list_any, position_or_len, starts_with}
use Rattle.std.specs.Str.{bytes_eq}
use Rattle.friendly_assembly.specs.declared.parts.Part.{Part}
use Rattle.friendly_assembly.specs.LineLabels.{labels_in, said_in}
use Rattle.friendly_assembly.specs.Operands.{Names, operand_text}
use Rattle.friendly_assembly.specs.Parts.{parts_of}
use Rattle.friendly_assembly.specs.Readings.{code_length, code_of, comment_of, is_blank}

-- whether what is said is only for this tool: it sets a constant, or is a string
abbrev pub is_told : List Part → Bool
is_told [] = false
is_told (word ∷ operands) = bytes_eq word.text (codes "SET") || bytes_eq word.text (codes "DS")

-- a line as a comment: without blanks at its beginning, and with a blank for each tab
abbrev pub comment_line : List ℕ → List ℕ
comment_line line = codes "; " ++ map (λ c. if c == 9 then 32 else c) (drop (position_or_len (λ c. not (is_blank c)) line) line)

-- whether an operand stays as it is
abbrev pub stays : Names → Part → Bool
stays names part = bytes_eq (operand_text names part) part.text

-- whether the operands after the first word stay as they are
abbrev pub operands_stay : Names → List Part → Bool
operands_stay names said = list_all (stays names) (drop 1 said)

-- whether a line is plain: it has no tab before its comment, one label at most, and no operand that becomes another
abbrev pub is_plain : Names → List ℕ → List Part → List Part → Bool
is_plain names code labels said =
    not (list_any (λ c. c == 9) code) && nat_le (length labels) 1 && operands_stay names said

-- a text with blanks up to a column
abbrev pub padded : List ℕ → ℕ → List ℕ
padded text column = text ++ replicate (column - 1 - length text) 32

-- a text that ends with a blank, unless it is empty
abbrev pub spaced : List ℕ → List ℕ
spaced [] = []
spaced (c ∷ cs) = if ends_with nat_eq (c ∷ cs) (codes " ") then c ∷ cs else (c ∷ cs) ++ codes " "

-- one part more, from a column on where there is room
abbrev pub with_part : List ℕ → ℕ → List ℕ → List ℕ
with_part text column part = spaced (padded text column) ++ part

-- the operands, each after a blank
abbrev pub with_operands : Names → List ℕ → List Part → List ℕ
with_operands names text [] = text
with_operands names text (part ∷ others) = with_operands names (spaced text ++ operand_text names part) others

-- what is said after the labels: its first word from a column on, and its operands
abbrev pub with_said : Names → List ℕ → ℕ → List Part → List ℕ
with_said names text column [] = text
with_said names text column (word ∷ operands) = with_operands names (with_part text column word.text) operands

-- the column of the first of some parts
abbrev pub first_column : List Part → ℕ
first_column [] = 1
first_column (part ∷ others) = part.column

-- the code of a line: its first label, and what it says. The first word is where the second part was, or after a blank.
abbrev pub plain_code : Names → List Part → List Part → List ℕ
plain_code names [] said = with_said names [] (first_column said) said
plain_code names (label ∷ others) said =
    with_said names (with_part [] label.column label.text) (first_column (others ++ said)) said

-- the comment from the column on where it was, or the end of the line
abbrev pub with_comment : List ℕ → ℕ → List ℕ → List ℕ
with_comment text count comment =
    if starts_with nat_eq comment (codes ";") then padded text (count + 1) ++ comment else text ++ comment

-- the plain line of a line that has these labels, and says this after them
abbrev pub plain_line_by : Names → List ℕ → List Part → List Part → List ℕ
plain_line_by names line labels said =
    if is_told said then comment_line line else
    if is_plain names (code_of line) labels said then line else
    with_comment (plain_code names labels said) (code_length line) (comment_of line)

-- the plain line that a line becomes, by the constants that are set and the labels that stand for others
unfoldable pub plain_line : Names → List ℕ → List ℕ
plain_line names line = plain_line_by names line (labels_in (parts_of (code_of line))) (said_in (parts_of (code_of line)))
