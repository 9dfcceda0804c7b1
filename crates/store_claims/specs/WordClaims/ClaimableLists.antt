-- Lists whose words may be claimed.
use Rattle.std.specs.Prelude.{◌≡◌, ℕ, ◌<◌, Bool, true, List}
use Rattle.kernel_lists.specs.LinkedList.Chain.{IsChain, list_at}
use Rattle.word_store.specs.Count.{IsApart, times, words_of}
use Rattle.store_claims.specs.WordClaims.Marks.{is_open}

-- The list at a head, of which `link p` is the address of the link of a node at p, and `size p` the number of its words.
pub record CanClaim (s : List ℕ) (link size : ℕ → ℕ) (marks : List Bool) (head : ℕ) : Type 0 where
  -- its links end
  pub chain : IsChain s link head (list_at s link head)
  -- each word of its nodes is open
  pub are_open : (a : ℕ) → 0 < times a (words_of size (list_at s link head)) → is_open marks a ≡ true
  -- and is a word of one node only
  pub apart : IsApart (words_of size (list_at s link head))
