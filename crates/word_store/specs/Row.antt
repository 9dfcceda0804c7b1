-- Words one after another in a store.
use Rattle.std.specs.Prelude.{ℕ, ◌+◌, List, [], ◌∷◌, slice_set}

-- the store with these words from an address on
abbrev pub with_words : List ℕ → ℕ → List ℕ → List ℕ
with_words s a [] = s
with_words s a (w ∷ ws) = with_words (slice_set s a w) (a + 1) ws
