-- Sums, products, quotients and remainders of at most 15 digits.
use Rattle.std.specs.Prelude.{ℕ, zero, ℤ, pos, negsuc, ◌+◌, ◌^◌, ◌+ℤ◌, ◌-ℤ◌, ◌*ℤ◌, int_div, int_rem, nat_lt, Bool, if◌then◌else◌, List, Result, Ok, Err}
use Rattle.std.specs.Str.Parse.{digits_value}
use Rattle.module_text.specs.TextReader.Numbers.{are_digits}
use Rattle.lab_marks.specs.declared.arithmetic.By.{By}
use Rattle.lab_marks.specs.declared.arithmetic.By.TheVariants.{Times, Over, Remainder}
use Rattle.lab_marks.specs.declared.arithmetic.Sign.{Sign}
use Rattle.lab_marks.specs.declared.arithmetic.Sign.TheVariants.{Plus, Minus}
use Rattle.lab_marks.specs.declared.wrongs.Wrong.{Wrong}
use Rattle.lab_marks.specs.declared.wrongs.Wrong.TheVariants.{DivisionByZero, LongValue}

-- whether a value has at most 15 digits
abbrev pub is_short : ℤ → Bool
is_short (pos n) = nat_lt n (10 ^ 15)
is_short (negsuc n) = nat_lt (n + 1) (10 ^ 15)

-- a value, where it is short enough
abbrev pub short : ℤ → Result ℤ Wrong
short z = if is_short z then Ok z else Err LongValue

-- a sum with one more product, added or taken away
abbrev pub joined : Sign → ℤ → ℤ → Result ℤ Wrong
joined Plus a b = short (a +ℤ b)
joined Minus a b = short (a -ℤ b)

-- a quotient or a remainder, of a number that is not 0
abbrev pub unless_zero : ℤ → Result ℤ Wrong → Result ℤ Wrong
unless_zero (pos zero) made = Err DivisionByZero
unless_zero _ made = made

-- a product with one more factor: quotients go toward zero, and remainders have the sign of the product
abbrev pub made : By → ℤ → ℤ → Result ℤ Wrong
made Times a b = short (a *ℤ b)
made Over a b = unless_zero b (short (int_div a b))
made Remainder a b = unless_zero b (short (int_rem a b))

-- what a number of decimal digits is worth
abbrev pub number_worth : List ℕ → Result ℤ Wrong
number_worth digits = if are_digits 10 digits then short (pos (digits_value 10 digits)) else Err LongValue
