-- What a call that exchanges owned words has to write.
use Rattle.std.specs.Prelude.{◌≡◌, ℕ, ◌<◌, List, ◌++◌, slice_index}
use Rattle.kernel_lists.specs.OwnedWords.Owned.{AreApart, AreInside, Holds, Pairs, owners, written}
use Rattle.kernel_lists.specs.OwnedWords.Exchange.{Exchange, Splits}

-- Where a store holds the words that are owned before, the words `new` are written for `old`, the words `kept` come to be
-- owned as they are, and the words `plain` are written besides, which nobody owns afterwards.
pub record Writes (s : List ℕ) (before after old new kept plain : Pairs) : Type 0 where
  -- the store holds what is owned before
  pub holds : Holds s before
  -- the old pairs go, and the new ones come with those that are kept
  pub exchange : Exchange before after old (new ++ kept)
  -- the store has those that are kept already
  pub there : Holds s kept
  -- no address is owned twice after
  pub apart : AreApart after
  -- what is owned after lies in the store
  pub inside : AreInside s after
  -- nobody owns the plain words after
  pub unowned : (a : ℕ) → 0 < owners a plain → owners a after ≡ 0

-- after a call has written its words, the store holds what is owned then, and only the plain words that were written have changed
-- besides
pub record IsWritten (s t : List ℕ) (after plain : Pairs) : Type 0 where
  -- the store holds what is owned after
  pub holds : Holds t after
  -- a word that nobody owns is as it was, or as the plain words say
  pub others : (a : ℕ) → owners a after ≡ 0 → slice_index t a ≡ slice_index (written plain s) a

-- The same, where the new words and the plain ones are written in an order of the call's own: `all` are both, and no plain word
-- is written twice.
pub record OrderedWrites (s : List ℕ) (before after old new kept plain all : Pairs) : Type 0 where
  -- the words that are written
  pub writes : Writes s before after old new kept plain
  -- they are all that is written, in another order
  pub order : Splits all plain new
  -- no plain word is written twice
  pub once : AreApart plain
  -- the plain words lie in the store
  pub plain_inside : AreInside s plain

-- The same of any store t, however it came about, also where a word was written twice: the new words are in it, and each
-- other word is as it was, or as it was written besides.
pub record HoldsWrites (s t : List ℕ) (before after old new plain : Pairs) : Type 0 where
  -- the store holds what is owned before
  pub holds : Holds s before
  -- the old pairs go, and the new ones come
  pub exchange : Exchange before after old new
  -- then the store has the new ones
  pub there : Holds t new
  -- every other word is as it was, or as the plain words say
  pub others : (a : ℕ) → owners a new ≡ 0 → slice_index t a ≡ slice_index (written plain s) a
  -- no address is owned twice after
  pub apart : AreApart after
  -- nobody owns the plain words after
  pub unowned : (a : ℕ) → 0 < owners a plain → owners a after ≡ 0
