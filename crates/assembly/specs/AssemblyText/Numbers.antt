-- Numbers in decimal.
use Rattle.std.specs.Prelude.{ℕ, ℤ, pos, neg_ℤ, ◌%◌, ◌^◌, ◌&&◌, Bool, if◌then◌else◌, List, drop, nat_eq, int_le, codes, Option}
use Rattle.std.specs.Int.{w64, cast_unsigned}
use Rattle.std.specs.List.{starts_with}
use Rattle.std.specs.Option.{option_map}
use Rattle.module_text.specs.TextReader.Numbers.{number_of as digits_number_of}

-- the number that a part of a line is, if it is one: digits, which may follow a `-`
abbrev pub number_of : List ℕ → Option ℤ
number_of part =
    if starts_with nat_eq part (codes "-") then option_map (λ n. neg_ℤ (pos n)) (digits_number_of (drop 1 part)) else
    option_map pos (digits_number_of part)

-- n is from low to high
abbrev pub is_from_to : ℤ → ℤ → ℤ → Bool
is_from_to low high n = int_le low n && int_le n high

-- the low 32 bits of a number
abbrev pub word_of : ℤ → ℕ
word_of n = cast_unsigned w64 n % 2 ^ 32
