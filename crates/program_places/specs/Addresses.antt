-- Which addresses a place has.
use Rattle.std.specs.Prelude.{ℕ, ◌+◌, ◌*◌, ◌==◌, ◌&&◌, ◌||◌, Bool, false, List, codes, decimal, Option, Some, None, option_and_then, option_map, option_to_list, slice_get}
use Rattle.std.specs.List.{find, flat_map}
use Rattle.std.specs.Str.{bytes_eq}
use Rattle.module_text.specs.TextReader.Fields.{after_word}
use Rattle.program_places.specs.Lines.{is_labelled, label_offset}
use Rattle.program_places.specs.declared.loaded.LoadedHunk.{LoadedHunk}
use Rattle.program_places.specs.declared.maps.MappedHunk.{MappedHunk}
use Rattle.program_places.specs.declared.maps.MappedLine.{MappedLine}
use Rattle.program_places.specs.declared.maps.ProgramMap.{ProgramMap}

-- what comes after a name and a colon
abbrev pub after_name : List ℕ → List ℕ → Option (List ℕ)
after_name name place = option_and_then (after_word (codes ":")) (after_word name place)

-- digits are those that a number is written with, if there are some
abbrev pub is_decimal : ℕ → Option (List ℕ) → Bool
is_decimal number (Some digits) = bytes_eq digits (decimal number)
is_decimal number None = false

-- a line begins where a label is, if that is anywhere
abbrev pub is_offset : ℕ → Option ℕ → Bool
is_offset offset (Some o) = o == offset
is_offset offset None = false

-- whether this is the label of a line, and the line is at the label
abbrev pub is_label : List MappedLine → MappedLine → List ℕ → Bool
is_label lines line label = is_labelled label line && is_offset line.offset (label_offset label lines)

-- the same, where there is a label
abbrev pub is_label_of : List MappedLine → MappedLine → Option (List ℕ) → Bool
is_label_of lines line (Some label) = is_label lines line label
is_label_of lines line None = false

-- whether a place names a line of a hunk, by `FILE:LINE`, by the label that is on it, or by that with the program before it
abbrev pub is_named : MappedHunk → List ℕ → MappedLine → Bool
is_named hunk place line =
    is_decimal line.number (after_name hunk.file place) || (is_label hunk.lines line place
    || is_label_of hunk.lines line (after_name hunk.name place))

-- where a place is in a hunk: at the first line that it names
abbrev pub place_offset : List ℕ → MappedHunk → Option ℕ
place_offset place hunk = option_map (λ line. line.offset) (find (is_named hunk place) hunk.lines)

-- the byte address of a place in a hunk whose first word is at this address
abbrev pub address_from : ℕ → List ℕ → MappedHunk → Option ℕ
address_from word place hunk = option_map (λ offset. 4 * word + offset) (place_offset place hunk)

-- the byte address of a place in a loaded hunk, if the hunk has it
abbrev pub address_in : ProgramMap → List ℕ → LoadedHunk → Option ℕ
address_in map place loaded = option_and_then (address_from loaded.word place) (slice_get map.hunks loaded.hunk)

-- the byte addresses of a place, in the order of the loaded hunks
abbrev pub addresses_of : ProgramMap → List ℕ → List LoadedHunk → List ℕ
addresses_of map place loaded = flat_map (λ hunk. option_to_list (address_in map place hunk)) loaded
