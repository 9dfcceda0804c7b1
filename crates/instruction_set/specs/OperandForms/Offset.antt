-- Signed offsets, as words that are added modulo 2 ^ 32.
use Rattle.std.specs.Prelude.{ℕ}
use Rattle.std.specs.Int.{w8, w16, cast_signed}
use Rattle.word_store.specs.Arithmetic.{word_of}

-- a byte as a signed number
abbrev pub byte_offset : ℕ → ℕ
byte_offset b = word_of (cast_signed w8 b)

-- a halfword as a signed number
abbrev pub half_offset : ℕ → ℕ
half_offset h = word_of (cast_signed w16 h)
