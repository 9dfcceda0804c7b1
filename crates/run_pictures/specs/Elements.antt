-- The parts of elements.
use Rattle.std.specs.Prelude.{ℕ, ◌/◌, ◌%◌, List, [], ◌∷◌, codes, decimal}
use Rattle.byte_streams.specs.Pieces.{joined}
use Rattle.run_pictures.specs.Escapes.{escaped}
use Rattle.run_pictures.specs.Lengths.{in_tenths}
use Rattle.run_pictures.specs.declared.elements.Piece.{Piece}
use Rattle.run_pictures.specs.declared.elements.Piece.TheVariants.{Pixels, Plain, Spot, Text, Whole}

-- tenths of a pixel in pixels, with one decimal
abbrev pub tenths_text : ℕ → List ℕ
tenths_text tenths = joined (decimal (tenths / 10) ∷ codes "." ∷ decimal (tenths % 10) ∷ [])

-- a length in pixels
abbrev pub length_text : ℕ → List ℕ
length_text parts = tenths_text (in_tenths parts)

-- the bytes of a part
abbrev pub piece_text : Piece → List ℕ
piece_text (Plain bytes) = bytes.now
piece_text (Text bytes) = escaped bytes.now
piece_text (Whole number) = decimal number
piece_text (Pixels length) = length_text length.parts
piece_text (Spot point) = joined (length_text point.x.parts ∷ codes " " ∷ length_text point.y.parts ∷ [])
