-- Answers, from what the words ask for.
use Rattle.std.proofs.Common.{◌≡◌, ℕ, Option, None, Some, Result, List, [], refl, arith}
use Rattle.std.proofs.lemmas.Bool.{false≢true}
use Rattle.std.specs.Io.KnownBytes.{Consumes}
use Rattle.std.specs.Prelude.{IsSome}
use Rattle.byte_streams.specs.Write.{Prints}
use Rattle.program_answers.specs.Answered.{Answered}
use Rattle.program_answers.specs.Input.{IsInput}
use Rattle.program_answers.specs.declared.status.Status.TheVariants.{Usage, WantMemory}
use Rattle.program_answers.proofs.AnswerParts.{Answers-any, Answers-usage_text, status_after}
use Rattle.show_run.specs.InputAnswers.{IsShowAnswer, usage_answer}
use Rattle.show_run.specs.Leaves.{LeavesAsked}
use Rattle.show_run.specs.ValueTries.TryWords.{Asked}
use Rattle.show_run.specs.Words.{usage_text}
use Rattle.show_run.specs.declared.commands.Show.{Show}
use Rattle.show_run.specs.declared.tellings.Telling.{Telling}

-- words that ask for nothing get the usage
pub Answers-usage : {T E : Type 0} (asked : Option Show) (left h k : Option (List ℕ)) (written : Result T E) → asked ≡ None → Prints h k usage_text written → (input : List ℕ) × IsInput left input × Answered (IsShowAnswer asked input) h k (status_after written Usage)
Answers-usage asked left h k written is p =
    let x = Answers-any usage_answer left h k (status_after written Usage) (Answers-usage_text usage_answer h k written refl p) in
    (x.0, x.1, rw is x.2)

-- nothing was read where there was no memory for the values that are tried
pub leaves-memory : (tries : Option Asked) (telling : Option Telling) (asked : Option Show) (left : Option (List ℕ)) → IsSome tries → LeavesAsked tries telling asked left left WantMemory
leaves-memory None telling asked left is = absurd (false≢true is)
leaves-memory (Some tries) telling asked left is = ([], omega arith, nothing left)
  where
    nothing : (left : Option (List ℕ)) → Consumes left left []
    nothing None = tt
    nothing (Some xs) = refl
