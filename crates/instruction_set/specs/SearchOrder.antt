-- Tables for the switch by key whose keys are in the order of the search: as a tree, in which pairs 2i and 2i + 1 are
-- directly below pair i.
use Rattle.std.specs.Prelude.{◌≡◌, ℕ, ◌+◌, ◌*◌, ◌/◌, ◌^◌, ◌<◌, ◌≤◌, List, Ok}
use Rattle.word_store.specs.Arithmetic.{add}
use Rattle.instruction_set.specs.Switch.{halfword}

-- the table at t has these keys in pairs 1 to count
pub record HasKeys (words : List ℕ) (t count : ℕ) (keys : ℕ → ℕ) : Type 0 where
  -- the table has so many pairs
  pub counted : halfword words t ≡ Ok count
  -- each pair has its key
  pub each : (i : ℕ) → 1 ≤ i → i ≤ count → halfword words (add t (4 * i)) ≡ Ok (keys i)

-- pair j is pair i or is below it: the number j, halved some times, is i
abbrev pub IsUnder : ℕ → ℕ → Type 0
IsUnder i j = (times : ℕ) × (j / 2 ^ times ≡ i)

-- below each pair, lower keys are to the left and higher ones to the right
pub record IsSearchOrder (count : ℕ) (keys : ℕ → ℕ) : Type 0 where
  -- to the left of a pair the keys are lower
  pub left : (i j : ℕ) → 1 ≤ i → j ≤ count → IsUnder (2 * i) j → keys j < keys i
  -- to the right of it they are higher
  pub right : (i j : ℕ) → 1 ≤ i → j ≤ count → IsUnder (2 * i + 1) j → keys i < keys j
