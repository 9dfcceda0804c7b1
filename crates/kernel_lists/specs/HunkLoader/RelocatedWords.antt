-- Relocation: a hunk's own address is added to some of its words.
use Rattle.std.specs.Prelude.{ℕ, List, [], ◌∷◌, slice_index, slice_set}
use Rattle.word_store.specs.Arithmetic.{add}

-- the words, where the base was added modulo 2 ^ 32 to the one at each place, once for each time that the place is here
abbrev pub relocated : ℕ → List ℕ → List ℕ → List ℕ
relocated base words [] = words
relocated base words (p ∷ ps) = relocated base (slice_set words p (add (slice_index words p) base)) ps
