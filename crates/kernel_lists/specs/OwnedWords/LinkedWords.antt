-- The words of linked things. A kind of thing has an address, a word that links to the next one, and words, its link among them.
use Rattle.std.specs.Prelude.{◌<◌, ◌≤◌, ℕ, ◌+◌, List, [], ◌∷◌, ◌++◌}
use Rattle.std.specs.List.{AllByRecursion}
use Rattle.word_store.specs.Count.{node_words, times}
use Rattle.kernel_lists.specs.OwnedWords.Owned.{AreApart, AreInside, Holds, Pairs, owners}
use Rattle.kernel_lists.specs.OwnedWords.Exchange.{Exchange}

-- the address of the first one, or what the last link holds
abbrev pub first_of : {X : Type 0} → (X → ℕ) → List X → ℕ → ℕ
first_of address [] end = end
first_of address (x ∷ xs) end = address x

-- the words of all of them, each linked to the next, the last one to `end`
abbrev pub linked_words : {X : Type 0} → (X → ℕ) → (X → ℕ → Pairs) → List X → ℕ → Pairs
linked_words address words [] end = []
linked_words address words (x ∷ xs) end = words x (first_of address xs end) ++ linked_words address words xs end

-- these, and the head that leads to the first
abbrev pub headed_words : {X : Type 0} → (X → ℕ) → (X → ℕ → Pairs) → ℕ → List X → ℕ → Pairs
headed_words address words head xs end = (head, first_of address xs end) ∷ linked_words address words xs end

-- a thing's link is at its cell, and its other words do not depend on it
abbrev pub LinksAt : {X : Type 0} → (X → ℕ) → (X → ℕ → Pairs) → Type 0
LinksAt {X} cell words = (x : X) (n m : ℕ) → Exchange (words x n) (words x m) ((cell x, n) ∷ []) ((cell x, m) ∷ [])

-- Things of a kind are the nodes of a list: each has its link where the list has it, and owns at least the words of its node.
pub record AreNodes {X : Type 0} (address : X → ℕ) (words : X → ℕ → Pairs) (link size : ℕ → ℕ) : Type 0 where
  -- each owns its link, where the list has it
  pub links : LinksAt (λ x. link (address x)) words
  -- the link does not lie before the thing
  pub low : (x : X) → address x ≤ link (address x)
  -- and lies before its end
  pub high : (x : X) → link (address x) < address x + size (address x)
  -- a thing owns the words of its node, or more
  pub count : (a : ℕ) (x : X) (n : ℕ) → times a (node_words size (address x)) ≤ owners a (words x n)

-- A store holds the words of linked things, from the head on to an end: they are apart and lie in the store, and none is at 0.
pub record AreHeld {X : Type 0} (address : X → ℕ) (words : X → ℕ → Pairs) (s : List ℕ) (head : ℕ) (xs : List X) : Type 0 where
  -- the store holds the words of the head and of the things
  pub holds : Holds s (headed_words address words head xs 0)
  -- no address is owned twice
  pub apart : AreApart (headed_words address words head xs 0)
  -- they lie in the store
  pub inside : AreInside s (headed_words address words head xs 0)
  -- none of the things is at address 0
  pub some : AllByRecursion (λ x. 0 < address x) xs
