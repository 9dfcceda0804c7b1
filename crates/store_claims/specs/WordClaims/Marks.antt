-- Words that are open, and so may be claimed: a mark for each word, from word 0 on.
use Rattle.std.specs.Prelude.{◌≡◌, ◌↔◌, ℕ, ◌+◌, ◌<◌, ◌≤◌, ◌&&◌, Bool, true, false, if◌then◌else◌, nat_le, nat_lt, List, length, slice_index_or}
use Rattle.word_store.specs.Count.{times}

-- whether the word is open; after the last mark none is
abbrev pub is_open : List Bool → ℕ → Bool
is_open marks a = slice_index_or marks a false

-- the n words from a on are open
abbrev pub AreOpen : List Bool → ℕ → ℕ → Type 0
AreOpen marks a n = (b : ℕ) → a ≤ b → b < a + n → is_open marks b ≡ true

-- the n words from `first` on, as far as there are marks, are marked so, and all others are as they were
pub record IsSet (before after : List Bool) (first n : ℕ) (value : Bool) : Type 0 where
  -- there are as many marks as before
  pub size : length after ≡ length before
  -- the mark of each word
  pub marks : (a : ℕ) → a < length before
      → is_open after a ≡ (if nat_le first a && nat_lt a (first + n) then value else is_open before a)

-- these words were claimed: of those that were open, all others are
pub record AreClaimed (before after : List Bool) (claimed : List ℕ) : Type 0 where
  -- there are as many marks as before
  pub size : length after ≡ length before
  -- which words are open afterwards
  pub marks : (a : ℕ) → (is_open after a ≡ true) ↔ ((is_open before a ≡ true) × (times a claimed ≡ 0))
