-- What is noted of a session that is made.
use Rattle.std.specs.Prelude.{ℕ, ◌==◌, ◌&&◌, not, if◌then◌else◌, Bool, List, [], ◌∷◌, ◌++◌, length, codes, decimal, Option, Some, None, nat_eq}
use Rattle.std.specs.List.{ends_with, find, flat_map, list_any}
use Rattle.std.specs.Str.{bytes_eq}
use Rattle.byte_streams.specs.Pieces.{joined}
use Rattle.tool_bundles.specs.declared.bundles.Entry.{Entry}
use Rattle.session_making.specs.declared.notes.Clash.{Clash}
use Rattle.session_making.specs.declared.notes.Clashes.{Clashes}
use Rattle.session_making.specs.declared.notes.Setter.{Setter}
use Rattle.session_making.specs.declared.programs.Source.{Source}

-- what every note begins with
abbrev pub note : List ℕ
note = codes "session: note: "

-- a program of a bare machine sets globals, by what sets them
abbrev pub globals_in : List ℕ → List ℕ → List ℕ
globals_in path what =
    joined (note ∷ path ∷ codes " has " ∷ what
    ∷ codes ", and a bare machine sets no globals; the program has to set them, with LF and SG\n" ∷ [])

-- a program of a bare machine sets globals
abbrev pub globals_note : List ℕ → List ℕ
globals_note path =
    if ends_with nat_eq path (codes ".module") then globals_in path (codes "a global table") else
    globals_in path (codes "GLOBAL lines")

-- no task is in the session of guests
abbrev pub idle_note : List ℕ
idle_note = joined (note ∷ codes "no task is in this session, so nothing will run; an item begins with task\n" ∷ [])

-- a program's name is not the whole name of its first file
abbrev pub short_note : List ℕ → List ℕ → List ℕ
short_note name whole =
    if bytes_eq name whole then [] else
    joined (note ∷ codes "the name " ∷ whole ∷ codes " has more than 12 letters, so the program is called " ∷ name ∷ codes "\n" ∷ [])

-- a file does not set global 1, where a task or a program begins
abbrev pub no_start_note : List ℕ → List ℕ → List ℕ
no_start_note what path =
    if ends_with nat_eq path (codes ".module") then
    joined (note ∷ path ∷ codes " sets no global 1, where a " ∷ what ∷ codes " begins\n" ∷ [])
    else
    joined (note ∷ path ∷ codes " has no line GLOBAL 1, which names where a " ∷ what ∷ codes " begins\n" ∷ [])

-- none of several files does
abbrev pub none_note : List ℕ → List ℕ → List Entry → List ℕ
none_note what owner files =
    joined (note ∷ codes "none of the " ∷ decimal (length files) ∷ codes " files of " ∷ owner ∷ codes " sets global 1, where a " ∷ what
    ∷ codes " begins\n" ∷ [])

-- none of these files of an owner does
abbrev pub start_note : List ℕ → List ℕ → List Entry → List ℕ
start_note what owner (file ∷ []) = no_start_note what file.word
start_note what owner files = none_note what owner files

-- ---- files that set the same globals

-- the file at a path, with the numbers of the globals that it sets
abbrev pub source_at : List Source → List ℕ → Option Source
source_at sources path = find (λ source. bytes_eq source.path path) sources

-- the numbers of a file
abbrev numbers_of : Option Source → List ℕ
numbers_of (Some source) = source.numbers
numbers_of None = []

-- the numbers of the globals that the file at a path sets
abbrev pub set_by : List Source → List ℕ → List ℕ
set_by sources path = numbers_of (source_at sources path)

-- no file sets a global yet
abbrev pub no_clashes : Clashes
no_clashes = record { setters = []; found = [] }

-- the last file that sets a global, or this one where none does
abbrev pub setter_in : Option (List ℕ) → ℕ → List Setter → Option (List ℕ)
setter_in found number [] = found
setter_in found number (setter ∷ setters) =
    setter_in (if setter.number == number then Some setter.path else found) number setters

-- a clash with an earlier file, unless that is the same; where a task begins is set by several on purpose
abbrev pub clash_with : Option (List ℕ) → List ℕ → ℕ → List Clash
clash_with None path number = []
clash_with (Some earlier) path number =
    if not (number == 1) && not (bytes_eq earlier path) then record { earlier = earlier; later = path; number = number } ∷ [] else []

-- a file sets a global
abbrev pub add_clash : Clashes → List ℕ → ℕ → Clashes
add_clash clashes path number = record {
  setters = clashes.setters ++ record { number = number; path = path } ∷ [];
  found = clashes.found ++ clash_with (setter_in None number clashes.setters) path number;
}

-- a file sets globals
abbrev pub file_clashes : Clashes → List ℕ → List ℕ → Clashes
file_clashes clashes path [] = clashes
file_clashes clashes path (number ∷ numbers) = file_clashes (add_clash clashes path number) path numbers

-- files set globals, one after another
abbrev pub clashes_after : List Source → Clashes → List Entry → Clashes
clashes_after sources clashes [] = clashes
clashes_after sources clashes (file ∷ files) =
    clashes_after sources (file_clashes clashes file.word (set_by sources file.word)) files

-- two clashes are of the same two files
abbrev pub are_same : Clash → Clash → Bool
are_same first second = bytes_eq first.earlier second.earlier && bytes_eq first.later second.later

-- a clash of the same two files is among these
abbrev pub is_told : List Clash → Clash → Bool
is_told told clash = list_any (λ other. are_same other clash) told

-- the two files set more than one global
abbrev pub are_several : List Clash → Clash → Bool
are_several clashes clash = list_any (λ other. are_same other clash && not (other.number == clash.number)) clashes

-- the number of a clash, where that is of the same two files
abbrev pub number_text : Clash → Clash → List ℕ
number_text clash other = if are_same other clash then joined (codes " " ∷ decimal other.number ∷ []) else []

-- the numbers of the globals that two files set
abbrev pub numbers_text : Clash → List Clash → List ℕ
numbers_text clash clashes = flat_map (number_text clash) clashes

-- two files set the same global, with its number
unfoldable pub one_clash : List ℕ → List ℕ → List ℕ → List ℕ
one_clash earlier later numbers =
    joined (note ∷ earlier ∷ codes " and " ∷ later ∷ codes " both set global" ∷ numbers ∷ codes ", and what " ∷ later
    ∷ codes " sets counts\n" ∷ [])

-- two files set the same globals, with their numbers
unfoldable pub several_clashes : List ℕ → List ℕ → List ℕ → List ℕ
several_clashes earlier later numbers =
    joined (note ∷ earlier ∷ codes " and " ∷ later ∷ codes " both set globals" ∷ numbers ∷ codes ", and what " ∷ later
    ∷ codes " sets counts\n" ∷ [])

-- the two files of a clash, with the numbers of all globals that both set
abbrev pub clash_note : List Clash → Clash → List ℕ
clash_note clashes clash =
    if are_several clashes clash then several_clashes clash.earlier clash.later (numbers_text clash clashes) else
    one_clash clash.earlier clash.later (numbers_text clash clashes)

-- what is told, and the notes, after those of one clash more
abbrev pub note_clash : List Clash → List Clash → List ℕ → Clash → List Clash × List ℕ
note_clash all told text clash =
    if is_told told clash then (told, text) else (told ++ clash ∷ [], text ++ clash_note all clash)

-- the same, of several
abbrev pub notes_after : List Clash → List Clash → List ℕ → List Clash → List Clash × List ℕ
notes_after all told text [] = (told, text)
notes_after all told text (clash ∷ clashes) =
    notes_after all (note_clash all told text clash).0 (note_clash all told text clash).1 clashes

-- the notes of clashes between files, where some are told already, and what is told then
abbrev pub clash_notes : List Clash → List Source → List Entry → List Clash × List ℕ
clash_notes told sources files =
    notes_after (clashes_after sources no_clashes files).found told [] (clashes_after sources no_clashes files).found
