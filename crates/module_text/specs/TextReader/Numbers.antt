-- The numbers that digits are.
use Rattle.std.specs.Prelude.{ℕ, ◌≡◌, ◌≤◌, ◌&&◌, if◌then◌else◌, min, Bool, List, length, Option, Some, None, nat_le}
use Rattle.std.specs.List.{list_all}
use Rattle.std.specs.Char.{digit_value, is_digit}
use Rattle.std.specs.Str.Parse.{IsNumeral, digits_value}

-- a number is 1 to so many digits of a radix, in either case, and zeros may lead
pub record IsNumberIn (radix most : ℕ) (digits : List ℕ) (n : ℕ) : Type 0 where
  -- they are digits, and at least one
  pub numeral : IsNumeral radix digits
  -- there are no more than so many
  pub short : length digits ≤ most
  -- they have the value
  pub value : digits_value radix digits ≡ n

-- the value of a digit
abbrev pub digit_of : ℕ → ℕ → Option ℕ
digit_of radix c = if is_digit c radix then Some (digit_value c) else None

-- whether there are digits, and nothing else
abbrev pub are_digits : ℕ → List ℕ → Bool
are_digits radix digits = list_all (λ c. is_digit c radix) digits && nat_le 1 (length digits)

-- the number that the digits are, if they are one
abbrev pub number_in : ℕ → ℕ → List ℕ → Option ℕ
number_in radix most digits =
    if are_digits radix digits && nat_le (length digits) most then Some (digits_value radix digits) else None

-- a number of 1 to 10 decimal digits
abbrev pub IsNumber : List ℕ → ℕ → Type 0
IsNumber digits n = IsNumberIn 10 10 digits n

-- the number that such digits are, if they are one
abbrev pub number_of : List ℕ → Option ℕ
number_of digits = number_in 10 10 digits

-- the number that any number of decimal digits are, or the greatest where it is greater
abbrev pub any_number_of : ℕ → List ℕ → Option ℕ
any_number_of greatest digits = if are_digits 10 digits then Some (min (digits_value 10 digits) greatest) else None
