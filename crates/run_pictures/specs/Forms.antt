-- The lines before a log, which say how its picture is to be drawn.
use Rattle.std.specs.Prelude.{ℕ, List, codes, Option, Some, option_and_then}
use Rattle.module_text.specs.TextReader.Fields.{after_word}
use Rattle.module_text.specs.TextReader.Numbers.{number_of}
use Rattle.run_pictures.specs.Texts.{leading_number}

infixl 10 ◌>>=◌
-- a step, and then the next one with what it gave, unless it gave nothing
abbrev ◌>>=◌ : {A B : Type 0} → Option A → (A → Option B) → Option B
o >>= f = option_and_then f o

-- the width that a line `width N` says
abbrev pub width_of : List ℕ → Option ℕ
width_of line = do
  digits ← after_word (codes "width ") line
  number_of digits

-- the numbers that a line `rows FIRST COUNT` says
abbrev pub rows_of : List ℕ → Option (ℕ × ℕ)
rows_of line = do
  rows ← after_word (codes "rows ") line
  first ← leading_number rows
  digits ← after_word (codes " ") first.1
  count ← number_of digits
  Some (first.0, count)
