-- What is in a text from a place on, while a module is read from it.
use Rattle.std.specs.Prelude.{◌≡◌, ◌≢◌, ◌<◌, ℕ, ◌+◌, List, [], ◌∷◌, ◌++◌, length, map}
use Rattle.std.specs.List.{AllByRecursion}
use Rattle.module_text.specs.ModuleForm.{IsHunk, IsModule, relocation_items, relocation_type}
use Rattle.module_text.specs.ReadingOn.{Reads}
use Rattle.module_text.specs.declared.modules.Hunk.{Hunk}
use Rattle.module_text.specs.declared.modules.Module.{Module}
use Rattle.kernel_lists.specs.HunkLoader.ModuleRow.{last_word}

-- from the place on there are as many words as there are addresses from `at` up to `end`, and then others
pub record WordsFollow (text : List ℕ) (place at end : ℕ) (words others : List ℕ) : Type 0 where
  -- these words follow in the text
  pub reads : Reads text place (words ++ others)
  -- they fill the store up to there
  pub fill : at + length words ≡ end

-- the addresses of the words at these offsets from the base
abbrev pub places : ℕ → List ℕ → List ℕ
places base offsets = map (λ o. base + o) offsets

-- these addresses are in the store
abbrev pub AreInside : List ℕ → List ℕ → Type 0
AreInside s addresses = AllByRecursion (λ a. a < length s) addresses

-- from the place on there is the number of these offsets, and then the offsets and other words
pub record OffsetsFollow (text : List ℕ) (place : ℕ) (offsets others : List ℕ) : Type 0 where
  -- the number of the offsets and they follow in the text
  pub reads : Reads text place (length offsets ∷ offsets ++ others)

-- some word comes first, and no relocation list begins there
abbrev pub BeginsOther : List ℕ → Type 0
BeginsOther [] = ⊥
BeginsOther (w ∷ ws) = w ≢ relocation_type

-- from the place on there are these relocation lists, and then another item or the end word
pub record ListsFollow (text : List ℕ) (place : ℕ) (lists : List (List ℕ)) (others : List ℕ) : Type 0 where
  -- the relocation lists follow in the text
  pub reads : Reads text place (relocation_items lists ++ others)
  -- no further one does
  pub other : BeginsOther others

-- from the place on there is a hunk with its relocation lists, and then another hunk or the end word
pub record HunkFollows (text : List ℕ) (place : ℕ) (h : Hunk) (others : List ℕ) : Type 0 where
  -- the words of the hunk's items
  pub front : List ℕ
  -- they are the hunk
  pub is : IsHunk h front
  -- they follow in the text
  pub reads : Reads text place (front ++ others)
  -- no further relocation list does
  pub other : BeginsOther others

-- the text is that of a module of so many hunks, and a store has all its words from m on
pub record FitsAt (text s : List ℕ) (m count : ℕ) (hunks : Module) : Type 0 where
  -- the text is the module
  pub is : IsModule text hunks
  -- it has so many hunks
  pub all : length hunks.hunks ≡ count
  -- its last word lies in the store
  pub inside : m + last_word hunks.hunks < length s
