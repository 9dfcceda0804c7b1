-- What is told of tries: the first value of each outcome, and a table; and a session with one value.
use Rattle.std.specs.Prelude.{ℕ, ◌≡◌, false, List, [], ◌∷◌, ◌++◌, codes, decimal, Option, Some, None}
use Rattle.std.specs.List.{flat_map}
use Rattle.session_text.specs.Canonical.{canonical}
use Rattle.session_text.specs.declared.sessions.Session.{Session}
use Rattle.tool_texts.specs.Told.{Told}
use Rattle.show_run.specs.ValueTries.Groups.{groups_of}
use Rattle.show_run.specs.declared.value_tries.groups.Group.{Group}
use Rattle.show_run.specs.declared.value_tries.outcomes.Ending.{Ending}
use Rattle.show_run.specs.declared.value_tries.outcomes.Ending.TheVariants.{Stopped, NoBoot, NoSession}
use Rattle.show_run.specs.declared.value_tries.outcomes.Try.{Try}
use Rattle.show_run.specs.declared.value_tries.spans.Span.{Span}

-- the first value of spans
abbrev pub first_of : List Span → Option ℕ
first_of [] = None
first_of (span ∷ spans) = Some span.first

-- the same, where there is a session with it
abbrev pub value_before : Ending → List Span → Option ℕ
value_before NoSession spans = None
value_before (Stopped stop) spans = first_of spans
value_before (NoBoot line code) spans = first_of spans

-- the first value with which there is a session of this outcome
abbrev pub first_value : Group → Option ℕ
first_value group = value_before group.outcome.ending group.spans

-- a value, or `-` for none
abbrev pub value_text : Option ℕ → List ℕ
value_text (Some value) = decimal value
value_text None = codes "-"

-- the line of an outcome
abbrev pub first_line : Group → List ℕ
first_line group = value_text (first_value group) ++ codes "\n"

-- a line for each outcome, in the order of the first try of each, then an empty line, and then a table, of which no definition says which words
-- it has
abbrev pub HasFirsts : List Try → List ℕ → Type 0
HasFirsts tries bytes = (table : List ℕ) × bytes ≡ flat_map first_line (groups_of tries) ++ codes "\n" ++ table

-- what tries come to is told
pub record AreTold (tries : List Try) (t : Told) : Type 0 where
  -- nothing is wrong
  pub right : t.is_wrong ≡ false
  -- the first value of each outcome comes first
  pub firsts : HasFirsts tries t.bytes

-- a session is told, by its one canonical text
pub record IsVariant (s : Session) (t : Told) : Type 0 where
  -- nothing is wrong
  pub right : t.is_wrong ≡ false
  -- the text
  pub text : t.bytes ≡ canonical s
