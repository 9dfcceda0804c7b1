-- Answers, from what the words ask for.
use Rattle.std.proofs.Common.{◌≡◌, ℕ, Option, None, Result, List, refl}
use Rattle.byte_streams.specs.Write.{Prints}
use Rattle.program_answers.specs.Answered.{Answered}
use Rattle.program_answers.specs.Input.{IsInput}
use Rattle.program_answers.specs.declared.status.Status.TheVariants.{Usage}
use Rattle.program_answers.proofs.AnswerParts.{Answers-any, Answers-usage_text, status_after}
use Rattle.tools_run.specs.InputAnswers.{IsAskedAnswer, usage_answer}
use Rattle.tools_run.specs.Words.{usage_text}
use Rattle.tools_run.specs.declared.commands.Asked.{Asked}

-- words that ask for nothing get the usage
pub Answers-usage : {T E : Type 0} (asked : Option Asked) (left h k : Option (List ℕ)) (written : Result T E) → asked ≡ None → Prints h k usage_text written → (input : List ℕ) × IsInput left input × Answered (IsAskedAnswer asked input) h k (status_after written Usage)
Answers-usage asked left h k written is p =
    let x = Answers-any usage_answer left h k (status_after written Usage) (Answers-usage_text usage_answer h k written refl p) in
    (x.0, x.1, rw is x.2)
