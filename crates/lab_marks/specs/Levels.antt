-- How far the sum between two parentheses is read.
use Rattle.std.specs.Prelude.{ℤ, pos, Result, Ok}
use Rattle.module_text.specs.TextReader.Steps.{◌>>=◌}
use Rattle.lab_marks.specs.declared.arithmetic.By.{By}
use Rattle.lab_marks.specs.declared.arithmetic.By.TheVariants.{Times}
use Rattle.lab_marks.specs.declared.arithmetic.Sign.{Sign}
use Rattle.lab_marks.specs.declared.arithmetic.Sign.TheVariants.{Plus}
use Rattle.lab_marks.specs.declared.levels.Level.{Level}
use Rattle.lab_marks.specs.declared.wrongs.Wrong.{Wrong}
use Rattle.lab_marks.specs.Arithmetic.{joined, made}

-- nothing is read yet: a sum of no products, and a product of no factors
abbrev pub start : Level
start = record { sum = pos 0; sign = Plus; product = pos 1; by = Times }

-- a factor comes next
abbrev pub with_factor : Level → ℤ → Result Level Wrong
with_factor level factor = do
  product ← made level.by level.product factor
  Ok (record { sum = level.sum; sign = level.sign; product = product; by = Times })

-- a `*`, a `/` or a `%` comes next
abbrev pub with_by : Level → By → Level
with_by level by = record { sum = level.sum; sign = level.sign; product = level.product; by = by }

-- what the sum is worth, where it ends here
abbrev pub total : Level → Result ℤ Wrong
total level = joined level.sign level.sum level.product

-- a `+` or a `-` comes next
abbrev pub with_sign : Level → Sign → Result Level Wrong
with_sign level sign = do
  sum ← total level
  Ok (record { sum = sum; sign = sign; product = pos 1; by = Times })
