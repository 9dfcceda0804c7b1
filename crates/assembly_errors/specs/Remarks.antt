-- What is said of a line, and of which column.
use Rattle.std.specs.Prelude.{ℕ, List}
use Rattle.byte_streams.specs.Pieces.{joined}
use Rattle.assembly_errors.specs.declared.remarks.Remark.{Remark as KeptRemark}

-- what is said of a line
pub record Remark : Type 0 where
  -- the column of which it is said, from 1
  pub column : ℕ
  -- the words
  pub words : List ℕ

-- the remark that the code keeps
abbrev pub kept_remark : KeptRemark → Remark
kept_remark r = record { column = r.column; words = r.words.items }

-- what is said of a column, one part after the other
abbrev pub said_of : ℕ → List (List ℕ) → Remark
said_of column parts = record { column = column; words = joined parts }
