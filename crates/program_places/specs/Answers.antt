-- What is said of places.
use Rattle.std.specs.Prelude.{ℕ, ◌-◌, ◌^◌, ◌==◌, Bool, true, false, if◌then◌else◌, List, [], ◌∷◌, ◌++◌, length, codes, decimal, Option, Some, None}
use Rattle.std.specs.List.{flat_map}
use Rattle.byte_streams.specs.Pieces.{joined}
use Rattle.module_text.specs.TextReader.Numbers.{any_number_of}
use Rattle.tool_bundles.specs.declared.bundles.Entry.{Entry}
use Rattle.tool_texts.specs.Told.{Told}
use Rattle.program_places.specs.Addresses.{addresses_of}
use Rattle.program_places.specs.Lines.{line_in}
use Rattle.program_places.specs.declared.lines.LabelFound.{LabelFound}
use Rattle.program_places.specs.declared.lines.LineFound.{LineFound}
use Rattle.program_places.specs.declared.loaded.LoadedHunk.{LoadedHunk}
use Rattle.program_places.specs.declared.maps.ProgramMap.{ProgramMap}
use Rattle.program_places.specs.declared.requests.Request.{Request}

-- ---- a line in words

-- the words between a number of bytes and a label
abbrev pub bytes_after : ℕ → List ℕ
bytes_after after = if after == 1 then codes " byte after the label " else codes " bytes after the label "

-- how far it is after a label
abbrev pub label_text : LabelFound → List ℕ
label_text label =
    if label.after == 0 then joined (codes ", at the label " ∷ label.name ∷ []) else
    joined (codes ", " ∷ decimal label.after ∷ bytes_after label.after ∷ label.name ∷ [])

-- the same, if there is a label
abbrev pub label_of : Option LabelFound → List ℕ
label_of (Some label) = label_text label
label_of None = []

-- where a line is
abbrev pub place_text : LineFound → List ℕ
place_text found = joined (found.file ∷ codes ":" ∷ decimal found.number ∷ []) ++ label_of found.label

-- ---- the answer to a place

-- what comes before each line of an answer, and a blank, unless it is empty
abbrev pub front_text : List ℕ → List ℕ
front_text front = if length front == 0 then [] else joined (front ∷ codes " " ∷ [])

-- a line of the answer to a byte address, if a line was found
abbrev pub line_text : List ℕ → Option LineFound → List ℕ
line_text front (Some found) = front_text front ++ (place_text found ++ codes "\n")
line_text front None = []

-- the answer to a byte address
abbrev pub lines_text : ProgramMap → List ℕ → ℕ → List LoadedHunk → List ℕ
lines_text map front address loaded = flat_map (λ hunk. line_text front (line_in map address hunk)) loaded

-- a line of the answer to a label or a line
abbrev pub address_text : List ℕ → ℕ → List ℕ
address_text front address = front_text front ++ joined (decimal address ∷ codes "\n" ∷ [])

-- the answer to a place that is this address, or none
abbrev pub answer_by : ProgramMap → List LoadedHunk → List ℕ → List ℕ → Option ℕ → List ℕ
answer_by map loaded front place (Some address) = lines_text map front address loaded
answer_by map loaded front place None = flat_map (address_text front) (addresses_of map place loaded)

-- the answer to a place
abbrev pub answer_of : ProgramMap → List LoadedHunk → List ℕ → List ℕ → List ℕ
answer_of map loaded front place = answer_by map loaded front place (any_number_of (2 ^ 64 - 1) place)

-- ---- the answers to all places

-- a place is in no program of the map at this path
abbrev pub absent_line : List ℕ → List ℕ → List ℕ
absent_line path place = joined (codes "where: no program of " ∷ path ∷ codes " that is loaded has " ∷ place ∷ codes "\n" ∷ [])

-- the same, if the answer to the place is empty
abbrev pub absent_text : List ℕ → List ℕ → List ℕ → List ℕ
absent_text path place answer = if length answer == 0 then absent_line path place else []

-- what the tool gives: a line with the status, and the places that are in no program, come first, if there are such
abbrev pub told_text : List ℕ → List ℕ → Told
told_text absent found =
    if length absent == 0 then record { is_wrong = false; bytes = found } else
    record { is_wrong = true; bytes = joined (codes "* 1\n" ∷ absent ∷ found ∷ []) }

-- what comes before each line of the answer to a place: nothing, where that is alone
abbrev pub front_of : Bool → List ℕ → List ℕ
front_of is_alone place = if is_alone then [] else place

-- the answer to a place, which may be alone
abbrev pub place_answer : ProgramMap → List LoadedHunk → Bool → List ℕ → List ℕ
place_answer map loaded is_alone place = answer_of map loaded (front_of is_alone place) place

-- those of these places that are in no program
abbrev pub absent_places : List ℕ → ProgramMap → List LoadedHunk → Bool → List Entry → List ℕ
absent_places path map loaded is_alone entries =
    flat_map (λ entry. absent_text path entry.word (place_answer map loaded is_alone entry.word)) entries

-- the answers to these places
abbrev pub found_places : ProgramMap → List LoadedHunk → Bool → List Entry → List ℕ
found_places map loaded is_alone entries = flat_map (λ entry. place_answer map loaded is_alone entry.word) entries

-- what the tool gives of these places, of which one may be alone
abbrev pub answer_to : List ℕ → ProgramMap → List LoadedHunk → Bool → List Entry → Told
answer_to path map loaded is_alone entries =
    told_text (absent_places path map loaded is_alone entries) (found_places map loaded is_alone entries)

-- what the tool gives of the places that are asked for
abbrev pub answer_places : Request → ProgramMap → List LoadedHunk → Told
answer_places request map loaded = answer_to request.map_path map loaded (length request.places == 1) request.places
