-- A program of a session, as its words are wherever it is loaded.
use Rattle.std.specs.Prelude.{ℕ, List, Option}

pub record Known : Type 0 where
  -- the name of its file
  pub name : List ℕ
  -- the lengths of its hunks
  pub lengths : List ℕ
  -- the words of all hunks; one to which an address is added is not known
  pub words : List (Option ℕ)
