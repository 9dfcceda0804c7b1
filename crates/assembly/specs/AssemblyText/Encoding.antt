-- What the lines give to the hunk, one after another.
use Rattle.std.specs.Prelude.{ℕ, ◌+◌, List, [], ◌∷◌, ◌++◌, length, option_to_list, Result, Ok}
use Rattle.assembly.specs.AssemblyText.Labels.{Table}
use Rattle.assembly.specs.AssemblyText.Pieces.{piece_of}
use Rattle.assembly.specs.AssemblyText.LineText.{line_of}
use Rattle.assembly.specs.AssemblyText.Refusal.{at_line}
use Rattle.module_text.specs.TextReader.Refusal.{Refusal}
use Rattle.module_text.specs.TextReader.Steps.{◌>>=◌}
use Rattle.assembly.specs.declared.assembly_text.pieces.Piece.{Piece}

-- the bytes from the first offset on, the offsets of the words to be relocated, and the pairs of the global table
pub record Code : Type 0 where
  -- the bytes
  pub bytes : List ℕ
  -- the offsets of the words to be relocated, in bytes
  pub relocations : List ℕ
  -- the number and the offset of each global
  pub pairs : List (ℕ × ℕ)

-- nothing yet: the hunk before its first line
abbrev pub no_code : Code
no_code = record { bytes = []; relocations = []; pairs = [] }

-- code, and then more
abbrev pub joined : Code → Code → Code
joined front back = record {
  bytes = front.bytes ++ back.bytes;
  relocations = front.relocations ++ back.relocations;
  pairs = front.pairs ++ back.pairs;
}

-- what one line gives, as code
abbrev pub code_of : Piece → Code
code_of piece = record {
  bytes = piece.bytes;
  relocations = option_to_list piece.relocation;
  pairs = option_to_list piece.pair;
}

-- what line n gives at its offset
abbrev pub encode_line : ℕ → Table → ℕ → List ℕ → Result Piece Refusal
encode_line n table offset text = do
  line ← at_line n (line_of text)
  at_line n (piece_of table offset line.statement)

-- what the lines from line n on give, the first of them at the offset
abbrev pub encode : ℕ → Table → ℕ → List (List ℕ) → Result Code Refusal
encode n table offset [] = Ok no_code
encode n table offset (text ∷ texts) = do
  piece ← encode_line n table offset text
  more ← encode (n + 1) table (offset + length piece.bytes) texts
  Ok (joined (code_of piece) more)
