-- What was written by a call that gives an answer of some kind.
use Rattle.std.specs.Prelude.{ℕ, List, Option}
use Rattle.std.specs.Io.KnownBytes.{Keeps}
use Rattle.program_answers.specs.Answer.{Answer, Answers}
use Rattle.program_answers.specs.declared.status.Status.{Status}
use Rattle.program_answers.specs.declared.status.Status.TheVariants.{ReadFault, WantMemory}

-- A call ended with this status, and wrote what by this status an answer of this kind says. A fault of the source and want of memory
-- come before it is known which answer it is; the count of the source's faults tells them apart (Cause).
abbrev pub Answered : (Answer → Type 0) → Option (List ℕ) → Option (List ℕ) → Status → Type 0
Answered IsIt old new ReadFault = Keeps old new
Answered IsIt old new WantMemory = Keeps old new
Answered IsIt old new status = (a : Answer) × IsIt a × Answers a old new status
