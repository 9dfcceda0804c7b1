-- What a source and a sink in memory are.
use Rattle.std.specs.Prelude.{ℕ, List, ◌++◌, drop}
use Rattle.byte_streams.specs.Faults.{one_more}
use Rattle.byte_streams.specs.declared.source.ReadStep.{ReadStep}
use Rattle.byte_streams.specs.declared.source.ReadStep.TheVariants.{Got, End, Failed as ReadFailed}
use Rattle.byte_streams.specs.declared.sink.WriteStep.{WriteStep}
use Rattle.byte_streams.specs.declared.sink.WriteStep.TheVariants.{All, Failed as WriteFailed}

-- the bytes left, the numbers of the calls that fail, the calls made and the faults counted
pub record Input : Type 0 where
  -- the bytes that are left
  pub left : List ℕ
  -- the calls that are to fail, by their numbers
  pub fails : List ℕ
  -- how many calls there were
  pub calls : ℕ
  -- how many of them failed
  pub faults : ℕ

-- the bytes held, the room, the numbers of the calls that fail, the calls made and the faults counted
pub record Kept : Type 0 where
  -- the bytes that were written
  pub bytes : List ℕ
  -- how many bytes it keeps at most
  pub room : ℕ
  -- the calls that are to fail, by their numbers
  pub fails : List ℕ
  -- how many calls there were
  pub calls : ℕ
  -- how many of them failed
  pub faults : ℕ

-- The source after a call, by what the call answered: one call more, and n bytes fewer or one fault more.
abbrev pub after_read : Input → ReadStep → Input
after_read s (Got n) = record s { left = drop n s.left; calls = one_more s.calls }
after_read s End = record s { calls = one_more s.calls }
after_read s ReadFailed = record s { calls = one_more s.calls; faults = one_more s.faults }

-- The sink after a call with a piece: one call more, and the piece more or one fault more.
abbrev pub after_write : Kept → List ℕ → WriteStep → Kept
after_write s piece All = record s { bytes = s.bytes ++ piece; calls = one_more s.calls }
after_write s piece WriteFailed = record s { calls = one_more s.calls; faults = one_more s.faults }
