-- Which answer the program's words and its input get.
use Rattle.std.specs.Prelude.{ℕ, ◌≡◌, List, Option, Some, None}
use Rattle.session_text.specs.SessionOfText.{session_of}
use Rattle.program_answers.specs.Answer.{Answer}
use Rattle.program_answers.specs.Input.{IsInputAnswer}
use Rattle.program_answers.specs.declared.status.Status.TheVariants.{Usage}
use Rattle.show_run.specs.ShownAnswers.{session_answer}
use Rattle.show_run.specs.Tellings.{IsTold, telling_of}
use Rattle.show_run.specs.ValueTries.TriesAnswers.{IsTried}
use Rattle.show_run.specs.ValueTries.TryWords.{Asked, tries_of}
use Rattle.show_run.specs.Words.{show_of, usage_text}
use Rattle.show_run.specs.declared.commands.Show.{Show}
use Rattle.show_run.specs.declared.tellings.Telling.{Telling}

-- what is asked for is shown of the session that the text is
abbrev pub IsShown : Show → List ℕ → Answer → Type 0
IsShown asked text a = a ≡ session_answer asked (session_of text)

-- the words that there are, for words that ask for nothing
abbrev pub usage_answer : Answer
usage_answer = record { status = Usage; bytes = usage_text }

-- words that ask for nothing get the usage
abbrev pub IsShowAnswer : Option Show → List ℕ → Answer → Type 0
IsShowAnswer None input a = a ≡ usage_answer
IsShowAnswer (Some asked) input a = IsInputAnswer (IsShown asked) input a

-- words that ask for a bundle to be told get that, and other words what is shown
abbrev pub IsTellingAnswer : Option Telling → Option Show → List ℕ → Answer → Type 0
IsTellingAnswer None asked input a = IsShowAnswer asked input a
IsTellingAnswer (Some telling) asked input a = IsInputAnswer (IsTold telling) input a

-- words that ask for tries of values get these
abbrev pub IsAskedAnswer : Option Asked → Option Telling → Option Show → List ℕ → Answer → Type 0
IsAskedAnswer None telling asked input a = IsTellingAnswer telling asked input a
IsAskedAnswer (Some tries) telling asked input a = IsInputAnswer (IsTried tries) input a

-- an answer to these words and this input
abbrev pub IsAnswer : List (List ℕ) → List ℕ → Answer → Type 0
IsAnswer words input a = IsAskedAnswer (tries_of words) (telling_of words) (show_of words) input a
