-- An answer: a status, and the bytes that are written.
use Rattle.std.specs.Prelude.{ℕ, ◌≡◌, List, Option}
use Rattle.std.specs.Io.KnownBytes.{Appends, Keeps}
use Rattle.byte_streams.specs.Write.{AppendsPrefix}
use Rattle.module_text.specs.TextReader.Refusal.{Refusal}
use Rattle.program_answers.specs.declared.status.Status.{Status}
use Rattle.program_answers.specs.declared.status.Status.TheVariants.{NoBoot, ReadFault, Refused, TooLong, WantMemory, WriteFault}
use Rattle.program_answers.specs.Texts.{no_boot_text, refused_text, too_long_text}

-- What the program ends with, and what it writes.
pub record Answer : Type 0 where
  -- the exit status
  pub status : Status
  -- the bytes that are written
  pub bytes : List ℕ

-- the answer to a session that is lawful, but does not boot
abbrev pub no_boot_answer : Refusal → Answer
no_boot_answer r = record { status = NoBoot; bytes = no_boot_text r }

-- the answer to a text that is refused
abbrev pub refused_answer : Refusal → Answer
refused_answer r = record { status = Refused; bytes = refused_text r }

-- the answer to an input of more bytes than the program reads
abbrev pub too_long_answer : Answer
too_long_answer = record { status = TooLong; bytes = too_long_text }

-- What a call has written where it ends with a status. A fault of the source and want of memory come before anything is
-- written, a fault of the sink leaves a prefix, and every other status is the answer's.
abbrev pub Answers : Answer → Option (List ℕ) → Option (List ℕ) → Status → Type 0
Answers a old new WriteFault = AppendsPrefix old new a.bytes
Answers a old new ReadFault = Keeps old new
Answers a old new WantMemory = Keeps old new
Answers a old new status = (a.status ≡ status) × Appends old new a.bytes
