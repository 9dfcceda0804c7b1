-- The text of printed pieces.
use Rattle.std.specs.Prelude.{ℕ, List, decimal}
use Rattle.std.specs.Fmt.{signed_decimal}
use Rattle.std.specs.Int.{w32, to_be_bytes}
use Rattle.std.specs.List.{flat_map}
use Rattle.hex.specs.Hex.{encode_lower}
use Rattle.byte_streams.specs.declared.pieces.Piece.{Piece}
use Rattle.byte_streams.specs.declared.pieces.Piece.TheVariants.{Text, Decimal, Signed, Word}

-- a word as eight hex digits in lower case, the highest first
abbrev pub hex_digits_of : ℕ → List ℕ
hex_digits_of w = encode_lower (to_be_bytes w32 w)

-- the bytes that a piece prints
abbrev pub text_of : Piece → List ℕ
text_of (Text t) = t.now
text_of (Decimal n) = decimal n
text_of (Signed n) = signed_decimal n
text_of (Word w) = hex_digits_of w

-- texts, one after another
abbrev pub joined : List (List ℕ) → List ℕ
joined texts = flat_map (λ t. t) texts
