-- The programs of a session, and which of them the module at a word of a store is.
use Rattle.std.specs.Prelude.{ℕ, ◌+◌, ◌-◌, ◌/◌, ◌==◌, ◌^◌, ◌&&◌, Bool, true, false, not, if◌then◌else◌, List, [], ◌∷◌, ◌++◌, drop, length, map, min, nat_eq, nat_le, nat_lt, slice_get, slice_set, Option, Some, None, is_some, Result, Ok, Err}
use Rattle.std.specs.List.{count_by, flat_map, starts_with}
use Rattle.module_text.specs.ModuleOfText.{module_of}
use Rattle.module_text.specs.TextReader.Refusal.{Refusal}
use Rattle.module_text.specs.declared.modules.Hunk.{Hunk}
use Rattle.module_text.specs.declared.modules.Module.{Module}
use Rattle.session_text.specs.declared.sessions.LineForm.{LineForm}
use Rattle.session_text.specs.declared.sessions.LineForm.TheVariants.{Code, File, Task}
use Rattle.session_text.specs.declared.sessions.Session.{Session}
use Rattle.session_text.specs.declared.sessions.SessionLine.{SessionLine}
use Rattle.run_names.specs.Known.{Known}

-- the word at an offset is not known
abbrev pub unfixed_once : List (Option ℕ) → ℕ → List (Option ℕ)
unfixed_once words offset = if nat_lt offset (length words) then slice_set words offset None else words

-- those at these offsets are not
abbrev pub unfixed : List (Option ℕ) → List ℕ → List (Option ℕ)
unfixed words [] = words
unfixed words (offset ∷ offsets) = unfixed (unfixed_once words offset) offsets

-- the words of a hunk, without those to which an address is added
abbrev pub fixed_words : Hunk → List (Option ℕ)
fixed_words hunk = unfixed (map Some hunk.words) hunk.relocations

-- how many words a hunk has; no store has room for more than are told
abbrev pub hunk_length : Hunk → ℕ
hunk_length hunk = min (length hunk.words) (2 ^ 32 - 1)

-- the program of this name, of these hunks
abbrev pub known_program : List ℕ → List Hunk → Known
known_program name hunks = record { name = name; lengths = map hunk_length hunks; words = flat_map fixed_words hunks }

-- a file whose text is a module is a program; any other file is none
abbrev pub module_programs : List ℕ → Result Module Refusal → List Known
module_programs name (Ok m) = known_program name m.hunks ∷ []
module_programs name (Err r) = []

-- a text that is too long is that of no module
abbrev pub file_programs : List ℕ → List ℕ → List Known
file_programs name bytes = if nat_lt (length bytes) (2 ^ 30) then module_programs name (module_of bytes) else []

-- only a line of a file gives one
abbrev pub form_programs : LineForm → List Known
form_programs (Code bytes) = []
form_programs (File name bytes) = file_programs name bytes
form_programs (Task id pri stack names) = []

-- what a line gives, if it gives a program
abbrev pub line_programs : SessionLine → List Known
line_programs line = form_programs line.form

-- all of them, in their order
abbrev pub programs_of : Session → List Known
programs_of s = flat_map line_programs s.lines

-- whether a known word is not the one that is there
abbrev pub is_other : Option ℕ → Option ℕ → Bool
is_other None there = false
is_other (Some w) None = true
is_other (Some w) (Some v) = not (w == v)

-- how many of the known words are others than those that are there, one by one
abbrev pub others : List (Option ℕ) → List ℕ → ℕ
others [] loaded = 0
others (k ∷ ks) loaded = (if is_other k (slice_get loaded 0) then 1 else 0) + others ks (drop 1 loaded)

-- whether at most a quarter of the known words are others
abbrev pub are_alike : List (Option ℕ) → List ℕ → Bool
are_alike known loaded = nat_le (others known loaded) (count_by is_some known / 4)

-- whether words begin with these lengths, and then with words that are alike
abbrev pub is_program_at : List ℕ → List (Option ℕ) → List ℕ → Bool
is_program_at lengths known words =
    if starts_with nat_eq words lengths then are_alike known (drop (length lengths) words) else false

-- the same, with the number of hunks before the lengths
abbrev pub is_counted_at : Known → List ℕ → Bool
is_counted_at p [] = false
is_counted_at p (count ∷ words) = count == length p.lengths && is_program_at p.lengths p.words words

-- whether the module at word m is that of a program
abbrev pub is_loaded : List ℕ → ℕ → Known → Bool
is_loaded store m p = is_counted_at p (drop (m + 1) store)
