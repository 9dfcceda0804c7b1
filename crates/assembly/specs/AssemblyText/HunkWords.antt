-- The words of the hunk.
use Rattle.std.specs.Prelude.{ℕ, ◌+◌, List, [], ◌∷◌, ◌++◌, length, fold, map, max}
use Rattle.std.specs.Int.{w32, from_le_bytes}
use Rattle.std.specs.List.{flat_map}
use Rattle.assembly.specs.AssemblyText.Encoding.{Code}

-- the words that bytes are, the low byte of each first; zero bytes fill the last
abbrev pub words_of : List ℕ → List ℕ
words_of [] = []
words_of (a ∷ []) = from_le_bytes w32 (a ∷ 0 ∷ 0 ∷ 0 ∷ []) ∷ []
words_of (a ∷ b ∷ []) = from_le_bytes w32 (a ∷ b ∷ 0 ∷ 0 ∷ []) ∷ []
words_of (a ∷ b ∷ c ∷ []) = from_le_bytes w32 (a ∷ b ∷ c ∷ 0 ∷ []) ∷ []
words_of (a ∷ b ∷ c ∷ d ∷ more) = from_le_bytes w32 (a ∷ b ∷ c ∷ d ∷ []) ∷ words_of more

-- the pairs, one after another
abbrev pub pair_words : List (ℕ × ℕ) → List ℕ
pair_words pairs = flat_map (λ p. p.0 ∷ p.1 ∷ []) pairs

-- the highest number of a global
abbrev pub highest : List (ℕ × ℕ) → ℕ
highest pairs = fold max 0 (map (λ p. p.0) pairs)

-- after the code comes a 0, and where there are pairs those and the highest number
abbrev pub closing : List (ℕ × ℕ) → List ℕ
closing [] = 0 ∷ []
closing (p ∷ ps) = (0 ∷ pair_words (p ∷ ps)) ++ highest (p ∷ ps) ∷ []

-- the words after the first
abbrev pub body : Code → List ℕ
body code = words_of code.bytes ++ closing code.pairs

-- the first word is the hunk's length
unfoldable pub hunk_words : Code → List ℕ
hunk_words code = (length (body code) + 1) ∷ body code
