-- The function byte that the code keeps for a name, at a place that the letters of the name make. No two names of rows make the same
-- place.
use Rattle.std.specs.Prelude.{ℕ, ◌+◌, ◌*◌, ◌/◌, ◌%◌, ◌^◌, List, fold, slice_index}
use Rattle.instruction_set.specs.declared.instruction_table.places.TheConstants.{BYTES, SHIFTS}

-- a number that stands for letters, with one letter more
abbrev pub key_with : ℕ → ℕ → ℕ
key_with key letter = (124 * key + letter) % 2 ^ 32

-- the number that stands for all letters of a name
abbrev pub key_of : List ℕ → ℕ
key_of name = fold key_with 0 name

-- by how much a place is shifted
abbrev pub shift_at : ℕ → ℕ
shift_at choice = slice_index SHIFTS choice

-- the place that a number makes: its lowest six bits choose how far the place of the others is shifted
abbrev pub place_by : ℕ → ℕ
place_by key = (key / 64 + shift_at (key % 64)) % 256

-- the function byte that the code keeps at a place
abbrev pub byte_at : ℕ → ℕ
byte_at place = slice_index BYTES place

-- the function byte that is kept for a name
unfoldable pub kept_byte : List ℕ → ℕ
kept_byte name = byte_at (place_by (key_of name))
