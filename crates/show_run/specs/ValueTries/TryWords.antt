-- What the words of the command line ask for, where they ask for tries.
use Rattle.std.specs.Prelude.{ℕ, ◌+◌, ◌==◌, if◌then◌else◌, List, [], ◌∷◌, take, drop, Option, Some, None, codes, nat_le, option_and_then, option_map}
use Rattle.std.specs.List.{position}
use Rattle.std.specs.Str.{bytes_eq}
use Rattle.module_text.specs.TextReader.Numbers.{number_of}
use Rattle.show_run.specs.ValueTries.Spans.{span_of}
use Rattle.show_run.specs.declared.value_tries.settings.Setting.{Setting}
use Rattle.show_run.specs.declared.value_tries.settings.Setting.TheVariants.{Tick, Key, Priority, Stack}
use Rattle.show_run.specs.declared.value_tries.spans.Span.{Span}
use Rattle.show_run.specs.declared.value_tries.words.Tries.{Tries}

-- what is set anew, and its values
pub record Asked : Type 0 where
  -- what is set anew
  pub setting : Setting
  -- the values, in the order in which they are tried
  pub spans : List Span

-- both as one
abbrev pub asked : Setting → List Span → Asked
asked setting spans = record { setting = setting; spans = spans }

-- the same, as the code has it
abbrev pub seen : Tries → Asked
seen tries = asked tries.setting tries.spans.items

-- each number from the first to the last, if that is no less
abbrev pub span_from : ℕ → ℕ → Option Span
span_from first last = if nat_le first last then Some (record { first = first; last = last }) else None

-- the numbers between two that are written in decimal
abbrev pub span_between : List ℕ → List ℕ → Option Span
span_between first last = option_and_then (λ m. option_and_then (λ n. span_from m n) (number_of last)) (number_of first)

-- a number, or two with `-` between them
abbrev pub span_at : List ℕ → Option ℕ → Option Span
span_at word (Some dash) = span_between (take dash word) (drop (dash + 1) word)
span_at word None = option_map span_of (number_of word)

-- what a word says: one number, or the numbers between two
abbrev pub span_in : List ℕ → Option Span
span_in word = span_at word (position (λ c. c == 45) word)

-- the values that the words are, if each is one
abbrev pub spans_in : List (List ℕ) → Option (List Span)
spans_in [] = Some []
spans_in (word ∷ words) = option_and_then (λ span. option_map (λ spans. span ∷ spans) (spans_in words)) (span_in word)

-- at least one value
abbrev pub asked_with : Setting → List (List ℕ) → Option Asked
asked_with setting [] = None
asked_with setting (word ∷ words) =
    option_map (asked setting) (spans_in (word ∷ words))

-- what is set of the key or the task with a number
abbrev pub setting_at : List ℕ → ℕ → Option Setting
setting_at what number =
    if bytes_eq what (codes "key") then Some (Key number) else
    if bytes_eq what (codes "priority") then Some (Priority number) else
    if bytes_eq what (codes "stack") then Some (Stack number) else
    None

-- the same, where the number is written in decimal
abbrev pub numbered_setting : List ℕ → List ℕ → Option Setting
numbered_setting what digits = option_and_then (setting_at what) (number_of digits)

-- a number of a key or of a task, and then the values
abbrev pub numbered_tries : List ℕ → List (List ℕ) → Option Asked
numbered_tries what [] = None
numbered_tries what (digits ∷ words) = option_and_then (λ setting. asked_with setting words) (numbered_setting what digits)

-- the clock's period, or a number of a key or of a task
abbrev pub plain_tries : List ℕ → List (List ℕ) → Option Asked
plain_tries what words = if bytes_eq what (codes "tick") then asked_with Tick words else numbered_tries what words

-- `tries`, what is set anew, and its values
abbrev pub tries_of : List (List ℕ) → Option Asked
tries_of (word ∷ what ∷ words) = if bytes_eq word (codes "tries") then plain_tries what words else None
tries_of _ = None
