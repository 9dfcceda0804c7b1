-- The fields of a line.
use Rattle.std.specs.Prelude.{ℕ, ◌≡◌, Bool, if◌then◌else◌, List, ◌++◌, length, drop, Option, Some, None, Result, Ok, Err, nat_eq, option_and_then}
use Rattle.std.specs.List.{starts_with}
use Rattle.std.specs.Option.{ok_or}
use Rattle.module_text.specs.TextReader.Numbers.{IsNumber, number_of}
use Rattle.module_text.specs.TextReader.Refusal.{Refusal, refusal}
use Rattle.module_text.specs.TextReader.Steps.{◌>>=◌}

-- a line is this word and a number
abbrev pub IsNumberLine : List ℕ → ℕ → List ℕ → Type 0
IsNumberLine word n line = (digits : List ℕ) × (line ≡ word ++ digits) × IsNumber digits n

-- what follows a word at the front of a line
abbrev pub after_word : List ℕ → List ℕ → Option (List ℕ)
after_word word line = if starts_with nat_eq line word then Some (drop (length word) line) else None

-- the number of line n, which is a word and a number
abbrev pub number_after : List ℕ → ℕ → List ℕ → Result ℕ Refusal
number_after word n line = ok_or (option_and_then number_of (after_word word line)) (refusal n 1)

-- the number of a line, where it is in its range
abbrev pub number_line : List ℕ → (ℕ → Bool) → ℕ → List ℕ → Result ℕ Refusal
number_line word is_in_range n line = do
  value ← number_after word n line
  if is_in_range value then Ok value else Err (refusal n 2)
