-- What is wrong in a text, said with its place.
use Rattle.std.specs.Prelude.{ℕ, ◌+◌, ◌-◌, ◌==◌, ◌&&◌, ◌∷◌, ◌++◌, [], List, length, take, drop, map, replicate, decimal, codes, nat_lt, nat_le, if◌then◌else◌}
use Rattle.std.specs.List.{flat_map}
use Rattle.std.specs.Str.Lines.{strip_carriage_return}
use Rattle.byte_streams.specs.Pieces.{joined}
use Rattle.tool_texts.specs.declared.reports.Report.{Report as KeptReport}

-- what is wrong at a place of a text
pub record Report : Type 0 where
  -- the number of the line, from 1
  pub line : ℕ
  -- the column, from 1
  pub column : ℕ
  -- the line
  pub text : List ℕ
  -- what is wrong, in words
  pub words : List ℕ
  -- the code that the program gives, or 0
  pub code : ℕ

-- the report that the code keeps
abbrev pub report_of : KeptReport → Report
report_of r = record {
  line = r.line;
  column = r.column;
  text = r.text.now;
  words = r.words.items;
  code = r.code;
}

-- the place of a line, in a file or in a text that has no name
abbrev pub place_text : List ℕ → ℕ → List ℕ
place_text [] line = joined (codes "line " ∷ decimal line ∷ codes ": " ∷ [])
place_text (c ∷ cs) line = joined ((c ∷ cs) ∷ codes ":" ∷ decimal line ∷ codes ": " ∷ [])

-- the words, and the code where there is one
abbrev pub head_text : List ℕ → ℕ → List ℕ
head_text words code =
    if code == 0 then joined (words ∷ codes "\n" ∷ []) else
    joined (words ∷ codes " (code " ∷ decimal code ∷ codes ")\n" ∷ [])

-- a tab is shown as a blank, and a byte that is no ASCII character as `?`
abbrev pub shown_byte : ℕ → ℕ
shown_byte c =
    if c == 9 then 32 else
    if nat_le 32 c && nat_le c 126 then c else
    63

-- How many bytes of a line are not shown before the others: where the column is far to the right, all but 36 before it.
abbrev pub first_shown : ℕ → ℕ
first_shown column = if nat_lt 72 column then column - 36 - 1 else 0

-- the bytes from there on, 92 at most
abbrev pub window : List ℕ → ℕ → List ℕ
window line first = take 92 (drop first line)

-- the part of a line around the column, and a mark below the column
abbrev pub shown_text : List ℕ → ℕ → List ℕ
shown_text line column =
    joined (codes "    " ∷ map shown_byte (window (strip_carriage_return line) (first_shown column)) ∷ codes "\n    "
    ∷ replicate (column - (first_shown column + 1)) 32 ∷ codes "^\n" ∷ [])

-- a report: the place, the words, the line, and a mark
abbrev pub report_text : List ℕ → Report → List ℕ
report_text name r = joined (place_text name r.line ∷ head_text r.words r.code ∷ shown_text r.text r.column ∷ [])

-- how many more there are
abbrev pub more_text : List ℕ → ℕ → List ℕ
more_text [] more = joined (codes "and " ∷ decimal more ∷ codes " more\n" ∷ [])
more_text (c ∷ cs) more = joined ((c ∷ cs) ∷ codes ": and " ∷ decimal more ∷ codes " more\n" ∷ [])

-- Up to 20 reports, and how many more there are. The name is that of the file, or empty where it has none.
abbrev pub reports_text : List ℕ → List Report → List ℕ
reports_text name reports =
    if nat_le (length reports) 20 then flat_map (report_text name) reports else
    flat_map (report_text name) (take 20 reports) ++ more_text name (length reports - 20)
