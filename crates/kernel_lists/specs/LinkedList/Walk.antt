-- A walk along links: the nodes to come, whose link words lie in the store.
use Rattle.std.specs.Prelude.{ℕ, ◌<◌, List, length}
use Rattle.std.specs.List.{AllByRecursion}
use Rattle.kernel_lists.specs.LinkedList.Chain.{IsChain, list_at}

-- the links from the word at `at` lead through the nodes to an end
pub record IsWalk (s : List ℕ) (link : ℕ → ℕ) (at : ℕ) (ps : List ℕ) : Type 0 where
  -- the links lead from there through the nodes to an end
  pub chain : IsChain s link at ps
  -- each link is a word of the store
  pub inside : AllByRecursion (λ p. link p < length s) ps

-- the links from the head lead to an end
abbrev pub CanWalk : List ℕ → (ℕ → ℕ) → ℕ → Type 0
CanWalk s link head = IsWalk s link head (list_at s link head)
