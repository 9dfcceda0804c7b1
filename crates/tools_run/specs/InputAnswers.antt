-- Which answer the program's words and its input get.
use Rattle.std.specs.Prelude.{ℕ, ◌≡◌, List, Option, Some, None}
use Rattle.program_answers.specs.Answer.{Answer}
use Rattle.program_answers.specs.Input.{IsInputAnswer}
use Rattle.program_answers.specs.declared.status.Status.TheVariants.{Usage}
use Rattle.tools_run.specs.ToolAnswers.{IsToolAnswer}
use Rattle.tools_run.specs.Words.{asked_of, usage_text}
use Rattle.tools_run.specs.declared.commands.Asked.{Asked}

-- the words that there are, for words that ask for nothing
abbrev pub usage_answer : Answer
usage_answer = record { status = Usage; bytes = usage_text }

-- words that ask for nothing get the usage
abbrev pub IsAskedAnswer : Option Asked → List ℕ → Answer → Type 0
IsAskedAnswer None input a = a ≡ usage_answer
IsAskedAnswer (Some asked) input a = IsInputAnswer (IsToolAnswer asked) input a

-- an answer to these words and this input
abbrev pub IsAnswer : List (List ℕ) → List ℕ → Answer → Type 0
IsAnswer words input a = IsAskedAnswer (asked_of words) input a
