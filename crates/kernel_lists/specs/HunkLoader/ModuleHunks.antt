-- The hunks of a module, as they are in a store.
use Rattle.std.specs.Prelude.{ℕ, ◌+◌, List, [], ◌∷◌, slice_index, slice_range, sum}

-- a hunk's address and its words
pub record PlacedHunk : Type 0 where
  -- the address of its first word
  pub base : ℕ
  -- its words, as they are there
  pub words : List ℕ

-- the hunk with these words, from an address on
abbrev pub placed : ℕ → List ℕ → PlacedHunk
placed base words = record { base = base; words = words }

-- how many hunks the module at m has
abbrev pub hunk_count : List ℕ → ℕ → ℕ
hunk_count s m = slice_index s (m + 1)

-- how many words each of them has, in their order
abbrev pub lengths_in : List ℕ → ℕ → List ℕ
lengths_in s m = slice_range s (m + 2) (m + 2 + hunk_count s m)

-- the address after the module's last word
abbrev pub module_end : List ℕ → ℕ → ℕ
module_end s m = m + 2 + hunk_count s m + sum (lengths_in s m)

-- hunks of these lengths, one after the other, the first of them at the base
abbrev pub hunks_at : List ℕ → ℕ → List ℕ → List PlacedHunk
hunks_at s base [] = []
hunks_at s base (n ∷ ns) = placed base (slice_range s base (base + n)) ∷ hunks_at s (base + n) ns

-- the hunks of the module at m
abbrev pub hunks_in : List ℕ → ℕ → List PlacedHunk
hunks_in s m = hunks_at s (m + 2 + hunk_count s m) (lengths_in s m)
