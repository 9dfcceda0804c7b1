-- What a source over a reader, and a sink over a writer, are.
use Rattle.std.specs.Prelude.{ℕ, List, Option}

-- the bytes that the reader has left, where it tells them, the reads and the faults counted
pub record ReadStream : Type 0 where
  -- the bytes that are left, where they are known
  pub bytes : Option (List ℕ)
  -- the count of reads
  pub calls : ℕ
  -- the count of faults
  pub faults : ℕ

-- the bytes that the writer holds, where it tells them, and the faults counted
pub record WriteStream : Type 0 where
  -- the bytes that were taken, where they are known
  pub bytes : Option (List ℕ)
  -- the count of faults
  pub faults : ℕ
