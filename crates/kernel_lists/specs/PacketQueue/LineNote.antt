-- What a note does to the sink of a log that writes a line for each event.
use Rattle.std.specs.Prelude.{ℕ, ◌≤◌, Bool, true, false, List, Option}
use Rattle.std.specs.Bool.{OnTrue, OnFalse}
use Rattle.std.specs.Io.KnownBytes.{Appends}
use Rattle.byte_streams.specs.Faults.{Rose}
use Rattle.byte_streams.specs.Write.{AppendsPrefix}

-- Where the log has not failed, the sink holds this line more; where it fails in this note, a prefix of the line.
abbrev pub WritesLine : (had_failed has_failed : Bool) → Option (List ℕ) → Option (List ℕ) → List ℕ → Type 0
WritesLine false false before now line = Appends before now line
WritesLine false true before now line = AppendsPrefix before now line
WritesLine true has_failed before now line = Unit {0}

-- the sink's count of faults has not fallen, and has risen where the log fails in this note
pub record HasFailCause (had_failed has_failed : Bool) (before now : ℕ) : Type 0 where
  -- the sink's count of faults has not fallen
  pub later : before ≤ now
  -- it rose where a log fails that had not failed
  pub fails : OnFalse had_failed (OnTrue has_failed (Rose before now))
