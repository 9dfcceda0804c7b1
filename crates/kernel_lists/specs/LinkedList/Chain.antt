-- Links through the words of a store: a head word, or the link word of a node, holds the address of the next node, and the
-- last one holds 0. A function gives the address of a node's link word.
use Rattle.std.specs.Prelude.{◌≡◌, ℕ, zero, suc, ◌==◌, if◌then◌else◌, List, [], ◌∷◌, length, slice_index}

-- from the word at `at` on, the links lead through the nodes, and the last one is 0
abbrev pub IsChain : List ℕ → (ℕ → ℕ) → ℕ → List ℕ → Type 0
IsChain s link at [] = slice_index s at ≡ 0
IsChain s link at (p ∷ ps) = (slice_index s at ≡ p) × IsChain s link (link p) ps

-- the nodes to which the links lead from the word at `at` on, so many at most
unfoldable pub links_from : ℕ → List ℕ → (ℕ → ℕ) → ℕ → List ℕ
links_from zero s link at = []
links_from (suc n) s link at =
    if slice_index s at == 0 then [] else slice_index s at ∷ links_from n s link (link (slice_index s at))

-- the list of a head. A list has no more nodes than the store has words
abbrev pub list_at : List ℕ → (ℕ → ℕ) → ℕ → List ℕ
list_at s link head = links_from (length s) s link head

-- the words that hold the links: the head, and each node's link word
abbrev pub cells : (ℕ → ℕ) → ℕ → List ℕ → List ℕ
cells link head [] = head ∷ []
cells link head (p ∷ ps) = head ∷ cells link (link p) ps

-- the word that holds the last link
abbrev pub last_cell : {X : Type 0} → (X → ℕ) → ℕ → List X → ℕ
last_cell link at [] = at
last_cell link at (p ∷ ps) = last_cell link (link p) ps
