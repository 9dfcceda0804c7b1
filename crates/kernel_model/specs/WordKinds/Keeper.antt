-- What a keeper of kinds knows: the addresses of the kernel's words, in any order.
use Rattle.std.specs.Prelude.{◌≡◌, ◌↔◌, ℕ, ◌+◌, ◌<◌, true, List}
use Rattle.word_store.specs.Count.{times}
use Rattle.kernel_lists.specs.OwnedWords.Owned.{owners}
use Rattle.kernel_model.specs.KernelRecord.HoldsLists.{HoldsLists}
use Rattle.kernel_model.specs.KernelRecord.KernelRanges.{CanWalkLists, is_kernel_word}
use Rattle.kernel_model.specs.KernelRecord.Lists.{Lists}
use Rattle.kernel_model.specs.KernelRecord.Owned.{owned}

-- these are the addresses of both lists together, in any order
abbrev pub AreTogether : List ℕ → List ℕ → List ℕ → Type 0
AreTogether all xs ys = (a : ℕ) → times a all ≡ times a xs + times a ys

-- The store holds the words that valid lists own, and their addresses are these, in any order. The last two follow from the first two; they
-- are said because a keeper's laws rest on them.
pub record IsStoreOf (s known : List ℕ) (l : Lists) : Type 0 where
  -- the store holds the lists
  pub lists : HoldsLists s l
  -- the known words are those that they own
  pub addresses : (a : ℕ) → times a known ≡ owners a (owned l)
  -- so the lists can be walked
  pub walk : CanWalkLists s
  -- and the kernel's words are those that are known
  pub kernel : (a : ℕ) → (is_kernel_word s a ≡ true) ↔ (0 < times a known)
