-- A store and a keeper of kinds, before and after a part of a step.
use Rattle.std.specs.Prelude.{◌≡◌, ℕ, ◌≤◌, List, length}
use Rattle.word_store.specs.Count.{times}
use Rattle.kernel_lists.specs.OwnedWords.Owned.{Pairs, owners}
use Rattle.kernel_lists.specs.OwnedWords.Written.{IsWritten}
use Rattle.kernel_model.specs.KernelRecord.HoldsLists.{HoldsLists}
use Rattle.kernel_model.specs.KernelRecord.Lists.{Lists}
use Rattle.kernel_model.specs.KernelRecord.Owned.{owned}

-- From the store s the store t has become one that holds these lists; of the words that nobody owns then, these plain words were
-- written, and no others have changed.
pub record IsChanged (s t : List ℕ) (l : Lists) (plain : Pairs) : Type 0 where
  -- it holds these lists
  pub lists : HoldsLists t l
  -- it has as many words
  pub size : length t ≡ length s
  -- its other words are as they were, or as they were written
  pub written : IsWritten s t (owned l) plain

-- A keeper, seen by what it tells, knows the words that these lists own, in whatever order they are listed.
abbrev pub Knows : (List ℕ → Type 0) → Lists → Type 0
Knows tells l = (known : List ℕ) → ((a : ℕ) → times a known ≡ owners a (owned l)) → tells known

-- The store holds these lists, and the keeper knows their words and has room for the store's.
pub record HasKeeper (s : List ℕ) (tells : List ℕ → Type 0) (room : ℕ) (l : Lists) : Type 0 where
  -- the lists that the store holds
  pub lists : HoldsLists s l
  -- the words that the keeper knows
  pub knows : Knows tells l
  -- it has room for a mark for each word
  pub enough : length s ≤ room
