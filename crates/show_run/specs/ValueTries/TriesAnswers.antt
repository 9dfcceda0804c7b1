-- The answer to a session of which values are tried.
use Rattle.std.specs.Prelude.{ℕ, ◌≡◌, List, map, Result, Ok, Err}
use Rattle.std.specs.List.{flat_map}
use Rattle.module_text.specs.TextReader.Refusal.{Refusal}
use Rattle.session_text.specs.SessionOfText.{session_of}
use Rattle.session_text.specs.declared.sessions.Session.{Session}
use Rattle.program_answers.specs.Answer.{Answer, refused_answer}
use Rattle.program_answers.specs.declared.status.Status.TheVariants.{Done}
use Rattle.show_run.specs.ValueTries.Groups.{count_of, groups_of}
use Rattle.show_run.specs.ValueTries.Runs.{try_of}
use Rattle.show_run.specs.ValueTries.Spans.{values_of}
use Rattle.show_run.specs.ValueTries.TryTexts.{gathering_text}
use Rattle.show_run.specs.ValueTries.TryWords.{Asked, seen}
use Rattle.show_run.specs.declared.value_tries.outcomes.Try.{Try}
use Rattle.show_run.specs.declared.value_tries.words.Tries.{Tries}

-- the tries of all values, in their order
abbrev pub tries_in : Asked → Session → List Try
tries_in asked s = map (try_of asked.setting s) (flat_map values_of asked.spans)

-- the groups of tries, and how many tries there were
abbrev pub tries_text : List Try → List ℕ
tries_text tries = gathering_text (groups_of tries) (count_of tries)

-- what the tries of a session come to
abbrev pub session_answer : Asked → Session → Answer
session_answer asked s = record { status = Done; bytes = tries_text (tries_in asked s) }

-- that, or the refusal of the session's text
abbrev pub tries_answer : Asked → Result Session Refusal → Answer
tries_answer asked (Ok s) = session_answer asked s
tries_answer asked (Err r) = refused_answer r

-- the values are tried of the session that the text is
abbrev pub IsTried : Asked → List ℕ → Answer → Type 0
IsTried asked text a = a ≡ tries_answer asked (session_of text)

-- the same, as the code has what is asked for
abbrev pub IsTriedBy : Tries → List ℕ → Answer → Type 0
IsTriedBy tries text a = IsTried (seen tries) text a
