-- A store and its lists once calls were made.
use Rattle.std.specs.Prelude.{◌≡◌, ℕ, List}
use Rattle.kernel_model.specs.KernelRecord.ChangedStore.{HasKeeper}
use Rattle.kernel_calls.specs.CallAnswers.CallChange.{CallChange}
use Rattle.kernel_model.specs.KernelRecord.StoreWithLists.{StoreWithLists, left_with}

-- what a call leaves of a store with these words, whether it is accepted or refused
abbrev pub left_by : List ℕ → CallChange → StoreWithLists
left_by words made = left_with words made.lists made.plain

-- the store has these words and holds these lists, and the keeper knows the words of the lists
pub record RepresentsStoreWithLists (s : List ℕ) (tells : List ℕ → Type 0) (room : ℕ) (k : StoreWithLists) : Type 0 where
  -- these are all words of the store
  pub words : s ≡ k.words
  -- it holds the lists, and the keeper knows their words
  pub keeper : HasKeeper s tells room k.lists
