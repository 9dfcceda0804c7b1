-- A linked list in a store: nodes of some words each, which lie in the store and apart from one another and from the head.
use Rattle.std.specs.Prelude.{◌≡◌, ℕ, ◌+◌, ◌<◌, ◌≤◌, List, ◌∷◌, length}
use Rattle.std.specs.List.{AllByRecursion}
use Rattle.word_store.specs.Count.{IsApart, node_words, times, words_of}
use Rattle.kernel_lists.specs.LinkedList.Chain.{IsChain, list_at}

-- a node's words lie in the store, its link among them, and it is not at 0
pub record IsNode (s : List ℕ) (link size : ℕ → ℕ) (p : ℕ) : Type 0 where
  -- it is not at address 0
  pub some : 0 < p
  -- its link is one of its words
  pub after : p ≤ link p
  -- and lies before its end
  pub before : link p < p + size p
  -- it lies in the store
  pub inside : p + size p ≤ length s

-- the nodes are linked from the head
pub record IsLinked (s : List ℕ) (link size : ℕ → ℕ) (head : ℕ) (ps : List ℕ) : Type 0 where
  -- the links lead from the head through the nodes to an end
  pub chain : IsChain s link head ps
  -- each is a node in the store
  pub nodes : AllByRecursion (IsNode s link size) ps
  -- the head is a word of the store
  pub head_inside : head < length s
  -- no word is of two nodes, or of a node and the head
  pub apart : IsApart (head ∷ words_of size ps)

-- there is a linked list at the head
abbrev pub HasList : List ℕ → (ℕ → ℕ) → (ℕ → ℕ) → ℕ → Type 0
HasList s link size head = IsLinked s link size head (list_at s link head)

-- the linked list at the head is this one
pub record IsListAt (s : List ℕ) (link size : ℕ → ℕ) (head : ℕ) (ps : List ℕ) : Type 0 where
  -- there is a list at the head
  pub valid : HasList s link size head
  -- it is this one
  pub list : list_at s link head ≡ ps

-- the words of a node that may come into the list lie in the store, apart from it
pub record IsFresh (s : List ℕ) (link size : ℕ → ℕ) (head : ℕ) (ps : List ℕ) (p : ℕ) : Type 0 where
  -- it is a node in the store
  pub node : IsNode s link size p
  -- none of its words is the head, or of a node of the list
  pub apart : (a : ℕ) → times a (node_words size p) + times a (head ∷ words_of size ps) ≤ 1
