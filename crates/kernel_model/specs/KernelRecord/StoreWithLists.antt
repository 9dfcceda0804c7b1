-- A store and the lists that it holds, as one call after another leaves them.
use Rattle.std.specs.Prelude.{ℕ, List}
use Rattle.kernel_lists.specs.OwnedWords.Owned.{Pairs, written}
use Rattle.kernel_model.specs.KernelRecord.Lists.{Lists}
use Rattle.kernel_model.specs.KernelRecord.Owned.{owned}

-- the words of a store, and the lists that it holds
pub record StoreWithLists : Type 0 where
  -- the words of the store, from address 0
  pub words : List ℕ
  -- the lists that they hold
  pub lists : Lists

-- these words and these lists as one
abbrev pub store_with_lists : List ℕ → Lists → StoreWithLists
store_with_lists words l = record { words = words; lists = l }

-- once the store holds these lists, and these plain words were written, no others have changed besides
abbrev pub left_with : List ℕ → Lists → Pairs → StoreWithLists
left_with words l plain = store_with_lists (written (owned l) (written plain words)) l
