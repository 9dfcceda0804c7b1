-- An input: what it is, which answer it has, and what a call leaves of it.
use Rattle.std.specs.Prelude.{ℕ, ◌≡◌, ◌+◌, ◌⊎◌, Bool, true, false, List, length, Option, Some, None, nat_le}
use Rattle.std.specs.Io.KnownBytes.{Consumes, IsAtEnd}
use Rattle.byte_streams.specs.Read.{TakesAtMost}
use Rattle.program_answers.specs.Answer.{Answer, too_long_answer}
use Rattle.program_answers.specs.declared.status.Status.{Status}
use Rattle.program_answers.specs.declared.status.Status.TheVariants.{Done, GuestFault, Usage, Refused, NoBoot, ReadFault, WriteFault, TooLong, WantMemory}

-- the most bytes of an input
abbrev pub limit : ℕ
limit = 67108864

-- the input is all that the source had left, where it tells
abbrev pub IsInput : Option (List ℕ) → List ℕ → Type 0
IsInput None input = Unit {0}
IsInput (Some left) input = input ≡ left

-- an input that is within the limit is answered as a text
abbrev pub IsAnswerWithin : Bool → (List ℕ → Answer → Type 0) → List ℕ → Answer → Type 0
IsAnswerWithin true IsTextAnswer input a = IsTextAnswer input a
IsAnswerWithin false IsTextAnswer input a = a ≡ too_long_answer

-- an input has this answer: that of its text, or that it is too long
unfoldable pub IsInputAnswer : (List ℕ → Answer → Type 0) → List ℕ → Answer → Type 0
IsInputAnswer IsTextAnswer input a = IsAnswerWithin (nat_le (length input) limit) IsTextAnswer input a

-- the limit was taken, and one byte more
abbrev pub TakesTooMuch : Option (List ℕ) → Option (List ℕ) → Type 0
TakesTooMuch old new = (bytes : List ℕ) × (length bytes ≡ limit + 1) × Consumes old new bytes

-- What a call that reads an input leaves, by the status: nothing where the input was answered. A sink fails only after the input was
-- read, to its end or to one byte past the limit.
abbrev pub InputLeaves : Option (List ℕ) → Option (List ℕ) → Status → Type 0
InputLeaves old new Done = IsAtEnd new
InputLeaves old new GuestFault = IsAtEnd new
InputLeaves old new Refused = IsAtEnd new
InputLeaves old new NoBoot = IsAtEnd new
InputLeaves old new TooLong = TakesTooMuch old new
InputLeaves old new ReadFault = TakesAtMost limit old new
InputLeaves old new WriteFault = IsAtEnd new ⊎ TakesTooMuch old new
InputLeaves old new WantMemory = TakesAtMost (limit + 1) old new
InputLeaves old new Usage = ⊥

-- a call that answers the usage ends with it, or where the sink failed
abbrev pub IsUsageEnd : Status → Type 0
IsUsageEnd Usage = Unit {0}
IsUsageEnd WriteFault = Unit {0}
IsUsageEnd _ = ⊥

-- a text that was read is answered, unless the sink fails or memory runs out
abbrev pub IsTextEnd : Status → Type 0
IsTextEnd Done = Unit {0}
IsTextEnd GuestFault = Unit {0}
IsTextEnd Refused = Unit {0}
IsTextEnd NoBoot = Unit {0}
IsTextEnd WriteFault = Unit {0}
IsTextEnd WantMemory = Unit {0}
IsTextEnd _ = ⊥
