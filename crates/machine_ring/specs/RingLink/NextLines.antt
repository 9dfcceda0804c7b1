-- The lines of a text, one after another.
use Rattle.std.specs.Prelude.{ℕ, if◌then◌else◌, List, [], ◌∷◌, Result, Ok, Err}
use Rattle.std.specs.Str.{bytes_eq}
use Rattle.module_text.specs.TextReader.Refusal.{Refusal, refusal}
use Rattle.module_text.specs.TextReader.Steps.{◌>>=◌}

-- the first of these lines, which is line n of the whole, and those after it
abbrev pub next_line : ℕ → List (List ℕ) → Result (List ℕ × List (List ℕ)) Refusal
next_line n [] = Err (refusal n 3)
next_line n (line ∷ lines) = Ok (line, lines)

-- the lines after it, where it is this word
abbrev pub line_after : List ℕ → ℕ → List (List ℕ) → Result (List (List ℕ)) Refusal
line_after word n lines = do
  first ← next_line n lines
  if bytes_eq first.0 word then Ok first.1 else Err (refusal n 1)
