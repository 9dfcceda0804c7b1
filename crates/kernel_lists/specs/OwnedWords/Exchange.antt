-- Owned words of which some are exchanged for others.
use Rattle.std.specs.Prelude.{◌≡◌, ℕ, ◌+◌, List}
use Rattle.kernel_lists.specs.OwnedWords.Owned.{Holds, Pairs, owners}

-- the pairs are these two parts, in some order
pub record Splits (whole rest part : Pairs) : Type 0 where
  -- an address has as many owners in the whole as in both
  pub count : (a : ℕ) → owners a whole ≡ owners a rest + owners a part
  -- a store that holds the whole holds both
  pub opens : (s : List ℕ) → Holds s whole → Holds s rest × Holds s part
  -- and one that holds both holds the whole
  pub closes : (s : List ℕ) → Holds s rest → Holds s part → Holds s whole

-- in place of `old`, `new` is owned, and the rest is owned as before
pub record Exchange (before after old new : Pairs) : Type 0 where
  -- what stays
  pub rest : Pairs
  -- before, it is beside what goes
  pub first : Splits before rest old
  -- and after, beside what comes
  pub then' : Splits after rest new
