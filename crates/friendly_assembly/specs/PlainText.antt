-- The plain text that a text becomes, or what is wrong in it.
use Rattle.std.specs.Prelude.{ℕ, ◌==◌, ◌&&◌, not, Bool, true, false, if◌then◌else◌, List, [], ◌∷◌, ◌++◌, length, map, codes, nat_eq}
use Rattle.std.specs.List.{ends_with, flat_map, join_with_byte, slice_split}
use Rattle.tool_texts.specs.Reports.{Report, reports_text}
use Rattle.tool_texts.specs.Told.{Told}
use Rattle.friendly_assembly.specs.LineForms.{form_reports}
use Rattle.friendly_assembly.specs.Operands.{Names}
use Rattle.friendly_assembly.specs.PlainLine.{plain_line}
use Rattle.friendly_assembly.specs.SecondLabels.{Labels, labels_of, no_labels}
use Rattle.friendly_assembly.specs.Settings.{Constants, constants_of, no_constants}
use Rattle.friendly_assembly.specs.Strings.{string_lines}

-- the lines of a text, each without its LF; after the last LF there is one more, which may be empty
abbrev pub lines_of : List ℕ → List (List ℕ)
lines_of text = slice_split (λ c. c == 10) text

-- the constants that the lines set
abbrev pub constants_set : List (List ℕ) → Constants
constants_set lines = constants_of no_constants 1 lines

-- the labels that the lines define
abbrev pub labels_defined : List (List ℕ) → Labels
labels_defined lines = labels_of (constants_set lines).table no_labels 1 lines

-- the constants that are set, and the labels for which others stand
abbrev pub names_known : Constants → Labels → Names
names_known constants labels = record { constants = constants.table; firsts = labels.firsts }

-- those of lines
abbrev pub names_in : List (List ℕ) → Names
names_in lines = names_known (constants_set lines) (labels_defined lines)

-- what is wrong: in the lines that set constants, then in labels, then in the forms of each line
abbrev pub reports_in : List (List ℕ) → List Report
reports_in lines =
    ((constants_set lines).reports ++ (labels_defined lines).reports) ++ form_reports (names_in lines) 1 lines

-- the lines of the strings, which come after the last line; it gets an end where it has none
abbrev pub after_lines : Bool → List ℕ → List ℕ
after_lines is_open [] = []
after_lines is_open (c ∷ cs) = if is_open then codes "\n" ++ c ∷ cs else c ∷ cs

-- whether a text has a last line without an end
abbrev pub has_open_line : List ℕ → Bool
has_open_line text = not (length text == 0) && not (ends_with nat_eq text (codes "\n"))

-- the plain text of lines: each as it becomes by itself, and after them the lines of the strings
abbrev pub plain_text_by : Names → List ℕ → List (List ℕ) → List ℕ
plain_text_by names text lines =
    join_with_byte 10 (map (plain_line names) lines) ++ after_lines (has_open_line text) (flat_map string_lines lines)

-- the plain text of a text
abbrev pub plain_text : List ℕ → List ℕ
plain_text text = plain_text_by (names_in (lines_of text)) text (lines_of text)

-- the plain text where nothing is wrong, or else what is wrong
abbrev pub told_by : List ℕ → List ℕ → List Report → Told
told_by name plain [] = record { is_wrong = false; bytes = plain }
told_by name plain (report ∷ others) = record { is_wrong = true; bytes = reports_text name (report ∷ others) }

-- what is said of a text with this name
unfoldable pub friendly_told : List ℕ → List ℕ → Told
friendly_told name text = told_by name (plain_text text) (reports_in (lines_of text))
