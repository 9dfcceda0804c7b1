-- What `unlink` answers and writes, by another name of the head and of the links.
use Rattle.std.proofs.Common.{◌≡◌, ◌∙◌, ℕ, List, Bool, true, false}
use Rattle.std.specs.Bool.{OnTrue}
use Rattle.std.proofs.lemmas.Bool.{false≢true}
use Rattle.kernel_lists.specs.LinkedList.Chain.{list_at}
use Rattle.kernel_lists.specs.LinkedList.Places.{has, without_node}

module _ (s v : List ℕ) {link link' : ℕ → ℕ} {head head' : ℕ} (p : ℕ) (b : Bool) (links : link ≡ link') (heads : head ≡ head') (found : b ≡ has p (list_at s link head)) where
  -- whether the node was there
  pub unlink-found : b ≡ has p (list_at s link' head')
  unlink-found = found ∙ (λ i. has p (list_at s (links i) (heads i)))

  -- the words, where it was
  pub unlink-words : has p (list_at s link' head') ≡ true → OnTrue b (v ≡ without_node s link head p) → v ≡ without_node s link' head' p
  unlink-words there words = on b (unlink-found ∙ there) words
    where
      on : (b : Bool) → b ≡ true → OnTrue b (v ≡ without_node s link head p) → v ≡ without_node s link' head' p
      on true e words = words ∙ (λ i. without_node s (links i) (heads i) p)
      on false e words = absurd (false≢true e)
