-- Owned words: pairs of an address and the word that is there.
use Rattle.std.specs.Prelude.{◌≡◌, ℕ, suc, ◌+◌, ◌<◌, ◌≤◌, ◌==◌, if◌then◌else◌, Option, Some, None, List, [], ◌∷◌, length, slice_index, slice_set}
use Rattle.word_store.specs.Count.{hit}

-- words that are owned, each with its address before it
abbrev pub Pairs : Type 0
Pairs = List (ℕ × ℕ)

-- how many of the pairs have the address
abbrev pub owners : ℕ → Pairs → ℕ
owners a [] = 0
owners a (e ∷ es) = hit a e.0 + owners a es

-- each pair's word is at its address
abbrev pub Holds : List ℕ → Pairs → Type 0
Holds s [] = Unit {0}
Holds s (e ∷ es) = (slice_index s e.0 ≡ e.1) × Holds s es

-- no address is owned twice
abbrev pub AreApart : Pairs → Type 0
AreApart es = (a : ℕ) → owners a es ≤ 1

-- each address is one of the store
abbrev pub AreInside : List ℕ → Pairs → Type 0
AreInside s es = (a : ℕ) → 0 < owners a es → a < length s

-- the words of what is at an address, from its word i on
abbrev pub row_from : ℕ → ℕ → List ℕ → Pairs
row_from a i [] = []
row_from a i (w ∷ ws) = (a + i, w) ∷ row_from a (suc i) ws

-- the word of the first pair with the address
abbrev pub word_in : ℕ → Pairs → Option ℕ
word_in a [] = None
word_in a (e ∷ es) = if a == e.0 then Some e.1 else word_in a es

-- the store with the pairs' words written, the last pair first
abbrev pub written : Pairs → List ℕ → List ℕ
written [] s = s
written (e ∷ es) s = slice_set (written es s) e.0 e.1
