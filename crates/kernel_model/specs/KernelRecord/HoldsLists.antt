-- A store that holds the words of valid lists.
use Rattle.std.specs.Prelude.{◌≡◌, ℕ, List, length}
use Rattle.kernel_lists.specs.OwnedWords.Owned.{Holds}
use Rattle.kernel_model.specs.KernelRecord.Lists.{Lists}
use Rattle.kernel_model.specs.KernelRecord.Owned.{owned}
use Rattle.kernel_model.specs.KernelRecord.ValidLists.{AreValid}

-- The store holds the lists: they are valid, and each word that they own is in it.
pub record HoldsLists (s : List ℕ) (l : Lists) : Type 0 where
  -- the lists are valid
  pub valid : AreValid l
  -- the store has as many words as they say
  pub size : length s ≡ l.size
  -- and each owned word is in it
  pub holds : Holds s (owned l)
