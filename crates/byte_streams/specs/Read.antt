-- What a read does to the bytes that a source has left, where it tells them.
use Rattle.std.specs.Prelude.{◌≡◌, ℕ, ◌<◌, ◌≤◌, List, length, take, Option, Result, Ok, Err}
use Rattle.std.specs.Io.KnownBytes.{Consumes, IsAtEnd, Keeps}
use Rattle.byte_streams.specs.Faults.{one_more}
use Rattle.byte_streams.specs.declared.source.ReadStep.{ReadStep}
use Rattle.byte_streams.specs.declared.source.ReadStep.TheVariants.{Got, End, Failed}
use Rattle.byte_streams.specs.declared.whole.ReadEnd.{ReadEnd}
use Rattle.byte_streams.specs.declared.whole.ReadEnd.TheVariants.{Fault, TooLong, WantMemory}

-- The bytes left lose those that the piece has got. At the end none were left, and none are.
abbrev pub Reads : Option (List ℕ) → Option (List ℕ) → ReadStep → List ℕ → Type 0
Reads old new (Got n) piece = (0 < n) × (n ≤ length piece) × Consumes old new (take n piece)
Reads old new End piece = IsAtEnd old × IsAtEnd new × Keeps old new
Reads old new Failed piece = Keeps old new

-- the count of faults is one more where the read failed, and else it is as it was
abbrev pub HasReadCause : ℕ → ℕ → ReadStep → Type 0
HasReadCause before now Failed = now ≡ one_more before
HasReadCause before now (Got n) = now ≡ before
HasReadCause before now End = now ≡ before

-- the same of all the reads up to the end, of which at most the last one failed
abbrev pub HasWholeCause : {T : Type 0} → ℕ → ℕ → Result T ReadEnd → Type 0
HasWholeCause before now (Err Fault) = now ≡ one_more before
HasWholeCause before now (Err TooLong) = now ≡ before
HasWholeCause before now (Err WantMemory) = now ≡ before
HasWholeCause before now (Ok v) = now ≡ before

-- the read failed exactly where P holds
abbrev pub ReadFailsWhere : ReadStep → Type 0 → Type 0
ReadFailsWhere Failed P = P
ReadFailsWhere (Got n) P = ¬ P
ReadFailsWhere End P = ¬ P

-- at most so many bytes were taken
abbrev pub TakesAtMost : ℕ → Option (List ℕ) → Option (List ℕ) → Type 0
TakesAtMost most old new = (bytes : List ℕ) × (length bytes ≤ most) × Consumes old new bytes
