-- The store that represents a kernel: each word is the one that the lists assign, else the plain word.
use Rattle.std.specs.Prelude.{◌≡◌, ℕ, ◌<◌, Option, Some, None, List, is_some, length, map, slice_index, slice_index_or, unwrap_or, if◌then◌else◌}
use Rattle.std.specs.List.{range_with_len}
use Rattle.kernel_lists.specs.OwnedWords.Owned.{Holds, Pairs, owners, word_in, written}
use Rattle.kernel_model.specs.KernelRecord.Kernel.{Kernel}
use Rattle.kernel_model.specs.KernelRecord.Lists.{Lists}
use Rattle.kernel_model.specs.KernelRecord.Owned.{owned}

-- the plain word at an address, if it has one
abbrev pub plain_at : Kernel → ℕ → Option ℕ
plain_at k a = slice_index_or k.plain a None

-- word a is the one that is paired with a among the owned words, else the plain one
unfoldable pub word_of : Kernel → ℕ → ℕ
word_of k a = unwrap_or (word_in a (owned k.lists)) (unwrap_or (plain_at k a) 0)

-- the words of the store, from address 0
unfoldable pub image : Kernel → List ℕ
image k = map (word_of k) (range_with_len 0 k.lists.size)

-- the plain words are those of the store that nobody owns
pub record HasPlainWords (k : Kernel) : Type 0 where
  -- there is a place for each word of the store
  pub size : length k.plain ≡ k.lists.size
  -- a word that nobody owns is plain
  pub plain : (a : ℕ) → a < k.lists.size → owners a (owned k.lists) ≡ 0 → (w : ℕ) × (plain_at k a ≡ Some w)
  -- a word that is owned is none
  pub owned : (a : ℕ) → 0 < owners a (owned k.lists) → plain_at k a ≡ None

-- The store is the kernel's image, word by word.
pub record IsImage (s : List ℕ) (k : Kernel) : Type 0 where
  -- the store has as many words as the lists say
  pub size : length s ≡ k.lists.size
  -- each owned word is in it
  pub holds : Holds s (owned k.lists)
  -- each other word is the kernel's plain one
  pub plain : (a : ℕ) → a < length s → owners a (owned k.lists) ≡ 0 → plain_at k a ≡ Some (slice_index s a)

-- the words of a store that these lists do not own
unfoldable pub plain_words : List ℕ → Lists → List (Option ℕ)
plain_words s l = map (λ a. if is_some (word_in a (owned l)) then None else Some (slice_index s a)) (range_with_len 0 l.size)

-- The kernel once its lists are these, and these plain words were written: an address that is owned now leaves the plain words,
-- and one that is owned no more enters them, with the word that was written there or stood there before.
unfoldable pub settled : Pairs → Kernel → Lists → Kernel
settled writes k l = record k { lists = l; plain = plain_words (written writes (image k)) l }
