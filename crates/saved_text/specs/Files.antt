-- Files as they are read, line by line.
use Rattle.std.specs.Prelude.{ℕ, ◌-◌, ◌%◌, ◌==◌, Bool, true, false, Option, List, [], ◌∷◌, ◌++◌, length, slice_get}
use Rattle.std.specs.Option.{option_map_or}
use Rattle.ram_disc.specs.Disc.{is_before}
use Rattle.saved_text.specs.declared.images.SavedFile.{SavedFile}

-- the last file, if there is one
abbrev pub last_of : List SavedFile → Option SavedFile
last_of files = slice_get files (length files - 1)

-- a file of this name may come after the others, in byte order
abbrev pub is_behind : List SavedFile → List ℕ → Bool
is_behind files name = option_map_or (λ f. is_before f.name name) (last_of files) true

-- the last file may have more bytes: it is there, and all lines of its bytes are full
abbrev pub takes_bytes : List SavedFile → Bool
takes_bytes files = option_map_or (λ f. length f.bytes % 32 == 0) (last_of files) false

-- a file with more bytes
abbrev pub with_more : SavedFile → List ℕ → SavedFile
with_more file bytes = record file { bytes = file.bytes ++ bytes }

-- the files, the last with more bytes
abbrev pub with_bytes : List SavedFile → List ℕ → List SavedFile
with_bytes [] bytes = []
with_bytes (file ∷ []) bytes = with_more file bytes ∷ []
with_bytes (file ∷ next ∷ files) bytes = file ∷ with_bytes (next ∷ files) bytes
