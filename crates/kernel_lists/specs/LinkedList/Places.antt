-- Places in a linked list: where a node comes in, and where one goes out.
use Rattle.std.specs.Prelude.{ℕ, Bool, ◌==◌, if◌then◌else◌, List, [], ◌∷◌, slice_set, slice_index}
use Rattle.std.specs.List.{list_any}
use Rattle.kernel_lists.specs.LinkedList.Chain.{list_at}

-- The nodes are addresses, or things that have one.

-- the list with p directly after the last node that passes the test, or at the front where none does
abbrev pub insert_after : {X : Type 0} → (X → Bool) → X → List X → List X
insert_after f p [] = p ∷ []
insert_after f p (q ∷ qs) = if list_any f (q ∷ qs) then q ∷ insert_after f p qs else p ∷ q ∷ qs

-- the link word of the last node that passes the test, or the word at `at` where none does
abbrev pub cell_after : {X : Type 0} → (X → Bool) → (X → ℕ) → ℕ → List X → ℕ
cell_after f link at [] = at
cell_after f link at (q ∷ qs) = cell_after f link (if f q then link q else at) qs

-- the list without the first node that passes the test
abbrev pub without_first : {X : Type 0} → (X → Bool) → List X → List X
without_first f [] = []
without_first f (q ∷ qs) = if f q then qs else q ∷ without_first f qs

-- the list without p, which is there once at most
abbrev pub without : ℕ → List ℕ → List ℕ
without p ps = without_first (λ q. p == q) ps

-- whether p is among the nodes
abbrev pub has : ℕ → List ℕ → Bool
has p ps = list_any (λ q. p == q) ps

-- the word that holds the link to p
abbrev pub cell_before : (ℕ → ℕ) → ℕ → ℕ → List ℕ → ℕ
cell_before link p at [] = at
cell_before link p at (q ∷ qs) = if p == q then at else cell_before link p (link q) qs

-- the store with p linked after the word at `cell`
abbrev pub linked_in : List ℕ → (ℕ → ℕ) → ℕ → ℕ → List ℕ
linked_in s link cell p = slice_set (slice_set s (link p) (slice_index s cell)) cell p

-- the store with p, to which the word at `cell` leads, linked out
abbrev pub linked_out : List ℕ → (ℕ → ℕ) → ℕ → ℕ → List ℕ
linked_out s link cell p = slice_set s cell (slice_index s (link p))

-- the store with p, a node of the list at the head, linked out
abbrev pub without_node : List ℕ → (ℕ → ℕ) → ℕ → ℕ → List ℕ
without_node s link head p = linked_out s link (cell_before link p head (list_at s link head)) p
