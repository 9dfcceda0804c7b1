-- The globals that a module sets.
use Rattle.std.specs.Prelude.{ℕ, ◌+◌, ◌-◌, ◌≤◌, ◌==◌, ◌&&◌, if◌then◌else◌, List, [], ◌∷◌, ◌++◌, length, nat_le, reverse, slice_index, slice_set}
use Rattle.std.specs.List.{AllByRecursion, flat_map}
use Rattle.word_store.specs.Arithmetic.{add, mul}
use Rattle.kernel_lists.specs.HunkLoader.ModuleHunks.{PlacedHunk, hunks_in}

-- the highest number of a global
abbrev pub most_globals : ℕ
most_globals = 1000

-- the last word of a hunk is the highest number that it has; without words there is none
abbrev pub highest : List ℕ → ℕ
highest words = slice_index words (length words - 1)

-- no hunk of the module at m has a number above the highest
abbrev pub GlobalsFit : List ℕ → ℕ → Type 0
GlobalsFit s m = AllByRecursion (λ h. highest h.words ≤ most_globals) (hunks_in s m)

-- a global and the word to which it is set
pub record Global : Type 0 where
  -- its number
  pub number : ℕ
  -- the word that it is set to
  pub value : ℕ

-- the global with a number, and the word to which it is set
abbrev pub global : ℕ → ℕ → Global
global number value = record { number = number; value = value }

-- a number from 1 to the highest is that of a global; others are passed over
abbrev pub global_of_number : ℕ → ℕ → List Global
global_of_number number value = if nat_le 1 number && nat_le number most_globals then global number value ∷ [] else []

-- the globals of pairs (number, offset), of which the words are read from the last one back, up to an offset 0 or too few
-- words. A global's value is the byte address at that offset in the hunk.
abbrev pub globals_of_pairs : ℕ → List ℕ → List Global
globals_of_pairs base [] = []
globals_of_pairs base (offset ∷ []) = []
globals_of_pairs base (offset ∷ number ∷ before) =
    if offset == 0 then [] else global_of_number number (add (mul 4 base) offset) ++ globals_of_pairs base before

-- the pairs come before the highest number; where that is 0, or there are no words, there are none
abbrev pub globals_back : ℕ → List ℕ → List Global
globals_back base [] = []
globals_back base (top ∷ before) = if top == 0 then [] else globals_of_pairs base before

-- a hunk's globals, that of the last pair first
abbrev pub globals_of_hunk : PlacedHunk → List Global
globals_of_hunk h = globals_back h.base (reverse h.words)

-- the globals of the hunks of the module at m, in their order
abbrev pub globals_in : List ℕ → ℕ → List Global
globals_in s m = flat_map globals_of_hunk (hunks_in s m)

-- the store, where these globals, in their order, are set in the words from g on: of two with one number the later one stays
abbrev pub with_globals : List ℕ → ℕ → List Global → List ℕ
with_globals s g [] = s
with_globals s g (x ∷ xs) = with_globals (slice_set s (g + x.number) x.value) g xs
