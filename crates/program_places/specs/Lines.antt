-- Which line of assembly is at an address.
use Rattle.std.specs.Prelude.{ℕ, ◌-◌, ◌*◌, Bool, false, if◌then◌else◌, List, [], ◌∷◌, length, nat_le, nat_lt, Option, Some, None, option_and_then, option_map, slice_get}
use Rattle.std.specs.List.{find}
use Rattle.std.specs.Option.{option_or}
use Rattle.std.specs.Str.{bytes_eq}
use Rattle.program_places.specs.declared.lines.LabelFound.{LabelFound}
use Rattle.program_places.specs.declared.lines.LineFound.{LineFound}
use Rattle.program_places.specs.declared.loaded.LoadedHunk.{LoadedHunk}
use Rattle.program_places.specs.declared.maps.MappedHunk.{MappedHunk}
use Rattle.program_places.specs.declared.maps.MappedLine.{MappedLine}
use Rattle.program_places.specs.declared.maps.ProgramMap.{ProgramMap}

-- ---- labels

-- whether the label that is last up to a line is this one
abbrev pub is_labelled : List ℕ → MappedLine → Bool
is_labelled label line = is_name line.label
  where
    is_name : Option (List ℕ) → Bool
    is_name (Some own) = bytes_eq own label
    is_name None = false

-- where a label is: at the first line that has it
abbrev pub label_offset : List ℕ → List MappedLine → Option ℕ
label_offset label lines = option_map (λ line. line.offset) (find (is_labelled label) lines)

-- ---- lines

-- the last of lines that does not begin after so many bytes, or else the one that was found before them
abbrev pub last_line : ℕ → Option MappedLine → List MappedLine → Option MappedLine
last_line away found [] = found
last_line away found (line ∷ lines) = last_line away (if nat_le line.offset away then Some line else found) lines

-- the label of a line, and how far it is to so many bytes
abbrev pub label_found : List MappedLine → ℕ → Option (List ℕ) → Option LabelFound
label_found lines away None = None
label_found lines away (Some label) =
    option_map (λ offset. record { name = label; after = away - offset }) (label_offset label lines)

-- a line of a hunk that is found at so many bytes
abbrev pub found_in : MappedHunk → ℕ → MappedLine → LineFound
found_in hunk away line = record { file = hunk.file; number = line.number; label = label_found hunk.lines away line.label }

-- the line at so many bytes from the first of a hunk: the last that does not begin after them, if they are in the hunk
abbrev pub line_away : ℕ → MappedHunk → Option LineFound
line_away away hunk =
    if nat_lt away (4 * length hunk.words) then option_map (found_in hunk away) (last_line away None hunk.lines) else None

-- the line at a byte address, in the hunk whose first word is at this address
abbrev pub line_from : ℕ → ℕ → MappedHunk → Option LineFound
line_from word address hunk = if nat_le (4 * word) address then line_away (address - 4 * word) hunk else None

-- the line at a byte address in a loaded hunk
abbrev pub line_in : ProgramMap → ℕ → LoadedHunk → Option LineFound
line_in map address place = option_and_then (line_from place.word address) (slice_get map.hunks place.hunk)

-- the line at a byte address, in the first of the loaded hunks that has one there
abbrev pub line_at : ProgramMap → ℕ → List LoadedHunk → Option LineFound
line_at map address [] = None
line_at map address (place ∷ places) = option_or (line_in map address place) (line_at map address places)
