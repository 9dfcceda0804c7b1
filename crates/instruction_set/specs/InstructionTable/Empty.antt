-- Where the table is empty.
use Rattle.std.specs.Prelude.{ℕ, List, [], ◌∷◌}

-- the bytes with no row
abbrev pub empty_bytes : List ℕ
empty_bytes = 0 ∷ 1 ∷ 223 ∷ 239 ∷ 240 ∷ 254 ∷ 255 ∷ []
