-- The map that a text says, or the first line in error.
use Rattle.std.specs.Prelude.{ℕ, ◌+◌, ◌==◌, ◌&&◌, not, if◌then◌else◌, Bool, List, [], ◌∷◌, ◌++◌, length, Option, Some, None, Result, Ok, Err, option_map}
use Rattle.std.specs.Str.{bytes_eq}
use Rattle.module_text.specs.TextReader.Lines.{lines_of}
use Rattle.module_text.specs.TextReader.Refusal.{Refusal, refusal}
use Rattle.module_text.specs.TextReader.Steps.{◌>>=◌}
use Rattle.program_places.specs.Refusals.{is_cut_off}
use Rattle.program_places.specs.Statements.{or_no_line, statement_of}
use Rattle.program_places.specs.declared.maps.MappedHunk.{MappedHunk}
use Rattle.program_places.specs.declared.maps.MappedLine.{MappedLine}
use Rattle.program_places.specs.declared.maps.PlacedHunk.{PlacedHunk}
use Rattle.program_places.specs.declared.maps.ProgramMap.{ProgramMap}
use Rattle.program_places.specs.declared.drafts.Draft.{Draft}
use Rattle.program_places.specs.declared.statements.Statement.{Statement}
use Rattle.program_places.specs.declared.statements.Statement.TheVariants.{Program, Hunk, Line, At}

-- ---- a map as far as it was read

-- a map but for its last hunk, and that one
abbrev pub draft : ProgramMap → Option MappedHunk → Draft
draft map last = record { map = map; last = last }

-- nothing was read
abbrev pub first_draft : Draft
first_draft = draft (record { hunks = []; placed = [] }) None

-- a program whose hunk has no words yet
abbrev pub begun_hunk : List ℕ → List ℕ → MappedHunk
begun_hunk name file = record { name = name; file = file; words = []; lines = [] }

-- a hunk has its words
abbrev pub has_words : MappedHunk → Bool
has_words hunk = not (length hunk.words == 0)

-- the map with its last hunk, if there is one, which has to have its words
abbrev pub with_last : ProgramMap → Option MappedHunk → Option ProgramMap
with_last map None = Some map
with_last map (Some hunk) =
    if has_words hunk then Some (record { hunks = map.hunks ++ hunk ∷ []; placed = map.placed }) else None

-- the last hunk gets its words, if it has the name and no words yet
abbrev pub with_words : List ℕ → List (Option ℕ) → Option MappedHunk → Option MappedHunk
with_words name words None = None
with_words name words (Some hunk) =
    if bytes_eq hunk.name name && not (has_words hunk) then Some (record hunk { words = words }) else None

-- the last hunk gets a line more, if it has the name and its words
abbrev pub with_line : List ℕ → MappedLine → Option MappedHunk → Option MappedHunk
with_line name line None = None
with_line name line (Some hunk) =
    if bytes_eq hunk.name name && has_words hunk then Some (record hunk { lines = hunk.lines ++ line ∷ [] }) else None

-- the map with one place more
abbrev pub with_placed : ProgramMap → PlacedHunk → ProgramMap
with_placed map placed = record { hunks = map.hunks; placed = map.placed ++ placed ∷ [] }

-- what is read after a statement, if that may come here
abbrev pub after_statement : Draft → Statement → Option Draft
after_statement d (Program name file) = option_map (λ map. draft map (Some (begun_hunk name file))) (with_last d.map d.last)
after_statement d (Hunk name words) = option_map (λ hunk. draft d.map (Some hunk)) (with_words name words d.last)
after_statement d (Line name line) = option_map (λ hunk. draft d.map (Some hunk)) (with_line name line d.last)
after_statement d (At placed) = Some (draft (with_placed d.map placed) d.last)

-- ---- all lines

-- line n is read, or it is the first in error
unfoldable pub step : Draft → ℕ → List ℕ → Result Draft Refusal
step d n line = do
  statement ← statement_of n line
  or_no_line n (after_statement d statement)

-- what is read of all the lines, from line n on
abbrev pub read_on : Draft → ℕ → List (List ℕ) → Result Draft Refusal
read_on d n [] = Ok d
read_on d n (line ∷ lines) = do
  next ← step d n line
  read_on next (n + 1) lines

-- the map of a text whose last line has this number, unless it is cut off there
abbrev pub end_map : ℕ → Bool → Draft → Result ProgramMap Refusal
end_map last cut_off d = if cut_off then Err (refusal last 3) else or_no_line last (with_last d.map d.last)

-- the map of a text
abbrev pub map_of : List ℕ → Result ProgramMap Refusal
map_of text = do
  d ← read_on first_draft 1 (lines_of text)
  end_map (length (lines_of text)) (is_cut_off text) d
