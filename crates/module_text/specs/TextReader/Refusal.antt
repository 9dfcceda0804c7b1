-- Where and why a text is refused.
use Rattle.std.specs.Prelude.{ℕ}

-- the line, counted from 1, and a code, to which each reader of texts gives its meaning
pub record Refusal : Type 0 where
  -- the number of the line, from 1
  pub line : ℕ
  -- the code that says why
  pub code : ℕ

-- a text is refused in a line, counted from 1, with a code
abbrev pub refusal : ℕ → ℕ → Refusal
refusal line code = record { line = line; code = code }
