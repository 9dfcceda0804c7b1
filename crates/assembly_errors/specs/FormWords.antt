-- What is said of a line that has none of the forms. What a definition gives where nothing is wrong is never said.
use Rattle.std.specs.Prelude.{ℕ, ◌+◌, ◌-◌, ◌==◌, ◌&&◌, Bool, not, if◌then◌else◌, List, [], ◌∷◌, length, take, drop, codes, is_some, Option, Some, None}
use Rattle.std.specs.List.{position}
use Rattle.std.specs.Str.{bytes_eq}
use Rattle.assembly.specs.AssemblyText.LineText.{before_colon}
use Rattle.assembly_errors.specs.ByteWords.{byte_remark, is_line_byte}
use Rattle.assembly_errors.specs.OperandWords.{is_label_part, no_form_remark, no_label_remark, statement_remark}
use Rattle.assembly_errors.specs.Parts.{next_part}
use Rattle.assembly_errors.specs.Remarks.{Remark, said_of}
use Rattle.assembly_errors.specs.declared.parts.Part.{Part}

-- ---- colons

-- the place of the first colon
abbrev pub colon_of : List ℕ → Option ℕ
colon_of bytes = position (λ c. c == 58) bytes

-- a colon that may not be there, with which this end of the line begins
abbrev pub colon_remark : List ℕ → List ℕ → Remark
colon_remark code left =
    said_of (length code - length left + 1) (codes "a colon is after the label with which a line begins, and nowhere else" ∷ [])

-- a part ends with a colon
abbrev pub ends_with_colon : List ℕ → Bool
ends_with_colon part = is_some (before_colon part)

-- a second colon, where this part follows the label
abbrev pub second_label_remark : List ℕ → Part → List ℕ → Remark
second_label_remark code part left =
    if ends_with_colon part.text then
    said_of part.column (codes "a line has one label at most; " ∷ part.text ∷ codes " may be on a line of its own" ∷ [])
    else
    colon_remark code left

-- a second colon, by what follows the label
abbrev pub later_colon_by : List ℕ → Option Part → List ℕ → Remark
later_colon_by code None left = colon_remark code left
later_colon_by code (Some part) left = second_label_remark code part left

-- a second colon, with which this end of the line begins
abbrev pub later_colon_remark : List ℕ → List ℕ → List ℕ → Remark
later_colon_remark code rest left = later_colon_by code (next_part code rest).part left

-- what follows a label, by where a colon is in it
abbrev pub after_label_by : List ℕ → List ℕ → Option ℕ → Remark
after_label_by code rest (Some place) = later_colon_remark code rest (drop place rest)
after_label_by code rest None = statement_remark code rest

-- a line that begins with this before its first colon
abbrev pub labelled_remark : List ℕ → Part → List ℕ → List ℕ → Remark
labelled_remark code part name rest =
    if not (is_label_part name) then no_label_remark part.column [] name else after_label_by code rest (colon_of rest)

-- a colon in a label, with which this end of the label begins
abbrev pub two_labels_remark : Part → List ℕ → Remark
two_labels_remark part left =
    said_of (part.end - length left) (codes "a line has one label at most, and a space after its colon" ∷ [])

-- a line that begins with a label, by where a colon is in it
abbrev pub label_by : List ℕ → Part → List ℕ → List ℕ → Option ℕ → Remark
label_by code part name rest (Some place) = two_labels_remark part (drop place name)
label_by code part name rest None = labelled_remark code part name rest

-- a line that begins with this before a colon
abbrev pub label_remark : List ℕ → Part → List ℕ → List ℕ → Remark
label_remark code part name rest =
    if length name == 0 then said_of part.column (codes "a label is missing before the colon" ∷ []) else
    label_by code part name rest (colon_of name)

-- a colon after the first part, where this part is the next
abbrev pub next_colon_remark : List ℕ → Part → Part → List ℕ → Remark
next_colon_remark code part next left =
    if bytes_eq next.text (codes ":") && is_label_part part.text then
    said_of next.column (codes "the colon is directly after its label: " ∷ part.text ∷ codes ":" ∷ [])
    else
    colon_remark code left

-- a colon after the first part, by the next part
abbrev pub apart_by : List ℕ → Part → Option Part → List ℕ → Remark
apart_by code part None left = colon_remark code left
apart_by code part (Some next) left = next_colon_remark code part next left

-- a colon after the first part, with which this end of the line begins
abbrev pub apart_remark : List ℕ → Part → List ℕ → List ℕ → Remark
apart_remark code part rest left = apart_by code part (next_part code rest).part left

-- a line whose first part has no colon, by where one is after it
abbrev pub outer_colon_by : List ℕ → Part → List ℕ → Option ℕ → Remark
outer_colon_by code part rest (Some place) = apart_remark code part rest (drop place rest)
outer_colon_by code part rest None = statement_remark code code

-- a line whose first part has no colon
abbrev pub outer_colon_remark : List ℕ → Part → List ℕ → Remark
outer_colon_remark code part rest = outer_colon_by code part rest (colon_of rest)

-- a colon at a place of the first part
abbrev pub inner_colon_remark : Part → ℕ → Remark
inner_colon_remark part place =
    if place == 0 then said_of part.column (codes "a colon is after the label with which a line begins, and nowhere else" ∷ []) else
    said_of
    (part.end - length (drop (place + 1) part.text))
    (codes "a space is missing after the colon: " ∷ take (place + 1) part.text ∷ codes " " ∷ drop (place + 1) part.text ∷ [])

-- a line whose first part ends with no colon, by where one is in it
abbrev pub unlabelled_by : List ℕ → Part → List ℕ → Option ℕ → Remark
unlabelled_by code part rest (Some place) = inner_colon_remark part place
unlabelled_by code part rest None = outer_colon_remark code part rest

-- a line whose first part ends with no colon
abbrev pub unlabelled_remark : List ℕ → Part → List ℕ → Remark
unlabelled_remark code part rest = unlabelled_by code part rest (colon_of part.text)

-- ---- the line

-- a line that begins with this part, by what is before its colon
abbrev pub begun_by : List ℕ → Part → List ℕ → Option (List ℕ) → Remark
begun_by code part rest (Some name) = label_remark code part name rest
begun_by code part rest None = unlabelled_remark code part rest

-- a line that begins with this part
abbrev pub begun_remark : List ℕ → Part → List ℕ → Remark
begun_remark code part rest = begun_by code part rest (before_colon part.text)

-- a line, by its first part
abbrev pub line_by : List ℕ → Option Part → List ℕ → Remark
line_by code None rest = no_form_remark
line_by code (Some part) rest = begun_remark code part rest

-- a line whose bytes lines may have
abbrev pub line_remark : List ℕ → Remark
line_remark code = line_by code (next_part code code).part (next_part code code).rest

-- line n, by where a byte is that lines may not have
abbrev pub form_by : ℕ → List ℕ → Option ℕ → Remark
form_by n code (Some place) = byte_remark n code place
form_by n code None = line_remark code

-- line n, which has none of the forms, without its comment
unfoldable pub form_remark : ℕ → List ℕ → Remark
form_remark n code = form_by n code (position (λ c. not (is_line_byte c)) code)
