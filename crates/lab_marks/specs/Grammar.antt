-- What expressions are, which tokens say them, and what they are worth.
use Rattle.std.specs.Prelude.{ℕ, ℤ, ◌≡◌, List, [], ◌∷◌, ◌++◌, Option, Result}
use Rattle.module_text.specs.TextReader.Steps.{◌>>=◌}
use Rattle.lab_marks.specs.declared.arithmetic.By.{By}
use Rattle.lab_marks.specs.declared.arithmetic.Sign.{Sign}
use Rattle.lab_marks.specs.declared.tokens.Placed.{Placed}
use Rattle.lab_marks.specs.declared.tokens.Token.{Token}
use Rattle.lab_marks.specs.declared.tokens.Token.TheVariants.{Digits, Name, Open, Close, Sign as SignToken, By as ByToken}
use Rattle.lab_marks.specs.declared.wrongs.Wrong.{Wrong}
use Rattle.lab_marks.specs.Arithmetic.{joined, made, number_worth}
use Rattle.lab_marks.specs.Known.{name_worth}

-- an expression
pub data Expression : Type 0 where
  -- a number of these digits
  Number : List ℕ → Expression
  -- a name
  Named : List ℕ → Expression
  -- one in parentheses
  Enclosed : Expression → Expression
  -- a product with a factor: it is multiplied, divided, or the remainder is left
  Product : By → Expression → Expression → Expression
  -- a sum with a product: it is added, or taken away
  Sum : Sign → Expression → Expression → Expression

-- what an expression is worth: its parts from the left, and then what joins them
abbrev pub worth : (List ℕ → Option ℤ) → Expression → Result ℤ Wrong
worth known (Number digits) = number_worth digits
worth known (Named name) = name_worth known name
worth known (Enclosed e) = worth known e
worth known (Product by a b) = do
  x ← worth known a
  y ← worth known b
  made by x y
worth known (Sum sign a b) = do
  x ← worth known a
  y ← worth known b
  joined sign x y

-- where an expression stands: as a factor, as a product of factors, or as a sum of products
pub data Grade : Type 0 where
  AsFactor : Grade
  AsProduct : Grade
  AsSum : Grade

-- there is one token, and it is this one
abbrev pub IsOne : Token → List Placed → Type 0
IsOne token tokens = (p : Placed) × (tokens ≡ p ∷ []) × (p.token ≡ token)

-- there are tokens of which this holds, between parentheses
abbrev pub IsEnclosed : (List Placed → Type 0) → List Placed → Type 0
IsEnclosed inside tokens =
    (first : Placed) × (inner : List Placed) × (last : Placed)
    × (tokens ≡ first ∷ (inner ++ last ∷ [])) × (first.token ≡ Open) × (last.token ≡ Close) × inside inner

-- there are tokens of which this holds, then this token, and then tokens of which that holds
abbrev pub IsJoined : Token → (List Placed → Type 0) → (List Placed → Type 0) → List Placed → Type 0
IsJoined token left right tokens =
    (before : List Placed) × (p : Placed) × (after : List Placed)
    × (tokens ≡ before ++ p ∷ after) × (p.token ≡ token) × left before × right after

-- tokens say an expression that stands there
abbrev pub Say : Grade → Expression → List Placed → Type 0
Say grade (Number digits) tokens = IsOne (Digits digits) tokens
Say grade (Named name) tokens = IsOne (Name name) tokens
Say grade (Enclosed e) tokens = IsEnclosed (Say AsSum e) tokens
Say AsFactor (Product by a b) tokens = ⊥
Say AsProduct (Product by a b) tokens = IsJoined (ByToken by) (Say AsProduct a) (Say AsFactor b) tokens
Say AsSum (Product by a b) tokens = IsJoined (ByToken by) (Say AsProduct a) (Say AsFactor b) tokens
Say AsFactor (Sum sign a b) tokens = ⊥
Say AsProduct (Sum sign a b) tokens = ⊥
Say AsSum (Sum sign a b) tokens = IsJoined (SignToken sign) (Say AsSum a) (Say AsProduct b) tokens
