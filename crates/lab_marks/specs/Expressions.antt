-- What an expression is worth: a sum of products of factors, where a factor is a number, a name, or a sum in parentheses.
use Rattle.std.specs.Prelude.{ℕ, ℤ, Bool, true, false, if◌then◌else◌, List, [], ◌∷◌, reverse, Option, Result, Ok, Err}
use Rattle.module_text.specs.TextReader.Steps.{◌>>=◌}
use Rattle.lab_marks.specs.declared.expressions.Reading.{Reading as KeptReading}
use Rattle.lab_marks.specs.declared.levels.Level.{Level}
use Rattle.lab_marks.specs.declared.tokens.Placed.{Placed}
use Rattle.lab_marks.specs.declared.tokens.Token.{Token}
use Rattle.lab_marks.specs.declared.tokens.Token.TheVariants.{Digits, Name, Open, Close, Sign, By}
use Rattle.lab_marks.specs.declared.wrongs.Wrong.{Wrong}
use Rattle.lab_marks.specs.declared.wrongs.Wrong.TheVariants.{NoExpression, NoOperand, OpenParenthesis}
use Rattle.lab_marks.specs.Arithmetic.{number_worth}
use Rattle.lab_marks.specs.Known.{name_worth}
use Rattle.lab_marks.specs.Levels.{start, total, with_by, with_factor, with_sign}
use Rattle.lab_marks.specs.Tokens.{tokens_of}

-- how far an expression is read
pub record Reading : Type 0 where
  -- the sum that is read
  pub level : Level
  -- the sums around it, each up to a `(`, the nearest first
  pub outer : List Level
  -- whether a factor is due, and otherwise an operator or a `)`
  pub due : Bool

-- nothing is read yet
abbrev pub beginning : Reading
beginning = record { level = start; outer = []; due = true }

-- a factor of this value comes next
abbrev pub with_value : Level → List Level → ℤ → Result Reading Wrong
with_value level outer value = do
  level ← with_factor level value
  Ok (record { level = level; outer = outer; due = false })

-- a token comes where a factor is due; from it on the text has this rest
abbrev pub with_operand : (List ℕ → Option ℤ) → Level → List Level → List ℕ → Token → Result Reading Wrong
with_operand known level outer rest (Digits digits) = do
  value ← number_worth digits
  with_value level outer value
with_operand known level outer rest (Name name) = do
  value ← name_worth known name
  with_value level outer value
with_operand known level outer rest Open = Ok (record { level = start; outer = level ∷ outer; due = true })
with_operand known level outer rest _ = Err (NoOperand rest)

-- what is wrong where neither an operator nor a `)` comes
abbrev pub unended : List ℕ → List Level → Wrong
unended text [] = NoExpression text
unended text (level ∷ outer) = OpenParenthesis

-- a sum that ends is a factor of the one around it
abbrev pub with_sum : Level → Level → List Level → Result Reading Wrong
with_sum level around outer = do
  value ← total level
  with_value around outer value

-- a `)` comes
abbrev pub closed : List ℕ → Level → List Level → Result Reading Wrong
closed text level [] = Err (NoExpression text)
closed text level (around ∷ outer) = with_sum level around outer

-- a token comes where no factor is due
abbrev pub with_operator : List ℕ → Level → List Level → Token → Result Reading Wrong
with_operator text level outer (By by) = Ok (record { level = with_by level by; outer = outer; due = true })
with_operator text level outer (Sign sign) = do
  level ← with_sign level sign
  Ok (record { level = level; outer = outer; due = true })
with_operator text level outer Close = closed text level outer
with_operator text level outer _ = Err (unended text outer)

-- a token of this text comes next
abbrev pub with_token : (List ℕ → Option ℤ) → List ℕ → Reading → Placed → Result Reading Wrong
with_token known text reading placed =
    if reading.due then with_operand known reading.level reading.outer placed.rest placed.token else
    with_operator text reading.level reading.outer placed.token

-- what a sum is worth that ends with the text
abbrev pub ended_sum : Level → List Level → Result ℤ Wrong
ended_sum level [] = total level
ended_sum level (around ∷ outer) = Err OpenParenthesis

-- what the text is worth that is read, where it ends here
abbrev pub ended : Reading → Result ℤ Wrong
ended reading = if reading.due then Err (NoOperand []) else ended_sum reading.level reading.outer

-- what a text is worth of which so much is read, and these tokens come next
abbrev pub value_after : (List ℕ → Option ℤ) → List ℕ → Reading → List Placed → Result ℤ Wrong
value_after known text reading [] = ended reading
value_after known text reading (placed ∷ others) = do
  reading ← with_token known text reading placed
  value_after known text reading others

-- what an expression is worth, where names have these values, or the first thing that is wrong in it
abbrev pub value_of : (List ℕ → Option ℤ) → List ℕ → Result ℤ Wrong
value_of known text = value_after known text beginning (tokens_of text)

-- what the code keeps of an expression that it reads: the nearest sum around is last
abbrev pub reading_kept : KeptReading → Reading
reading_kept reading = record { level = reading.level; outer = reverse reading.outer.items; due = reading.due }
