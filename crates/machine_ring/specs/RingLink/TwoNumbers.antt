-- The two numbers of a ring's first line.
use Rattle.std.specs.Prelude.{ℕ, ◌≡◌, List, ◌∷◌, ◌++◌, Option, Some, option_and_then, codes}
use Rattle.module_text.specs.TextReader.Fields.{after_word}
use Rattle.module_text.specs.TextReader.Numbers.{IsNumber, number_of}
use Rattle.session_text.specs.Statements.{number_field}

-- the line has these two, with one blank between
abbrev pub SaysTwoNumbers : ℕ × ℕ → List ℕ → Type 0
SaysTwoNumbers both line = (a b : List ℕ) × IsNumber a both.0 × IsNumber b both.1 × (line ≡ codes "RING " ++ (a ++ 32 ∷ b))

infixl 10 ◌>>=◌
-- a step, and then the next one with what it gave, unless it gave nothing
abbrev ◌>>=◌ : {A B : Type 0} → Option A → (A → Option B) → Option B
o >>= f = option_and_then f o

-- the two numbers of a line, if it has them
abbrev pub two_numbers : List ℕ → Option (ℕ × ℕ)
two_numbers line = do
  text ← after_word (codes "RING ") line
  rounds ← number_field text
  wait ← number_of rounds.1
  Some (rounds.0, wait)
