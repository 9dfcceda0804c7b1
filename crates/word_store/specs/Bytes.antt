-- The bytes of a store, which is a list of words. Byte 4 * a + i is byte i of word a, the lowest byte first.
use Rattle.std.specs.Prelude.{ℕ, ◌/◌, ◌%◌, List, Option, slice_get, slice_set, slice_index}
use Rattle.std.specs.Int.{w32, to_le_bytes, from_le_bytes}
use Rattle.std.specs.Option.{option_map}

-- byte i of a word
abbrev pub byte_of : ℕ → ℕ → ℕ
byte_of w i = slice_index (to_le_bytes w32 w) i

-- the word with byte i changed
abbrev pub with_byte : ℕ → ℕ → ℕ → ℕ
with_byte w i b = from_le_bytes w32 (slice_set (to_le_bytes w32 w) i b)

-- the byte at a byte address, where it is inside
abbrev pub byte_at : List ℕ → ℕ → Option ℕ
byte_at words a = option_map (λ w. byte_of w (a % 4)) (slice_get words (a / 4))

-- the store with the byte at a byte address changed
abbrev pub set_byte_at : List ℕ → ℕ → ℕ → List ℕ
set_byte_at words a b = slice_set words (a / 4) (with_byte (slice_index words (a / 4)) (a % 4) b)
