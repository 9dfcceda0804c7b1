-- What a write does to the bytes that a sink holds, where it tells them.
use Rattle.std.specs.Prelude.{◌≡◌, ℕ, ◌≤◌, List, ◌++◌, Option, Result, Ok, Err, OnErr}
use Rattle.std.specs.Io.KnownBytes.{Appends}
use Rattle.byte_streams.specs.Faults.{Rose}
use Rattle.byte_streams.specs.declared.sink.WriteStep.{WriteStep}
use Rattle.byte_streams.specs.declared.sink.WriteStep.TheVariants.{All, Failed}

-- the bytes held grow by a prefix of these
abbrev pub AppendsPrefix : Option (List ℕ) → Option (List ℕ) → List ℕ → Type 0
AppendsPrefix old new bytes = (front rest : List ℕ) × (bytes ≡ front ++ rest) × Appends old new front

-- the whole piece is held, or a prefix of it where the write failed
abbrev pub Writes : Option (List ℕ) → Option (List ℕ) → WriteStep → List ℕ → Type 0
Writes old new All piece = Appends old new piece
Writes old new Failed piece = AppendsPrefix old new piece

-- P holds where the write failed
abbrev pub OnWriteFailed : WriteStep → Type 0 → Type 0
OnWriteFailed Failed P = P
OnWriteFailed All P = Unit {0}

-- the count of faults has not fallen, and has risen where the write failed
pub record HasWriteCause (before now : ℕ) (step : WriteStep) : Type 0 where
  -- the count of faults has not fallen
  pub later : before ≤ now
  -- it rose where the write failed
  pub failed : OnWriteFailed step (Rose before now)

-- the write failed exactly where P holds
abbrev pub WriteFailsWhere : WriteStep → Type 0 → Type 0
WriteFailsWhere Failed P = P
WriteFailsWhere All P = ¬ P

-- a printing call writes its text, or a prefix of it where it failed
abbrev pub Prints : {T E : Type 0} → Option (List ℕ) → Option (List ℕ) → List ℕ → Result T E → Type 0
Prints old new text (Ok x) = Appends old new text
Prints old new text (Err e) = AppendsPrefix old new text

-- the count of faults has not fallen, and has risen where a printing call failed
pub record HasCause {T E : Type 0} (before now : ℕ) (result : Result T E) : Type 0 where
  -- the count of faults has not fallen
  pub later : before ≤ now
  -- it rose where this failed
  pub failed : OnErr result (Rose before now)
