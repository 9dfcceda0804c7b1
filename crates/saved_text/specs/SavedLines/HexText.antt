-- Bytes as hex digits in lower case.
use Rattle.std.specs.Prelude.{ℕ, ◌≡◌, ◌%◌, ◌==◌, ◌&&◌, ◌||◌, Bool, List, [], length, nat_le}
use Rattle.std.specs.List.{list_all}
use Rattle.std.specs.Result.{result_unwrap_or}
use Rattle.hex.specs.Hex.{IsBytes, decode_of, encode_lower}

-- the digits are the bytes in hex, two digits a byte, in lower case
abbrev pub IsHexOf : List ℕ → List ℕ → Type 0
IsHexOf bytes digits = IsBytes bytes × (digits ≡ encode_lower bytes)

-- `0` to `9`, or `a` to `f`
abbrev pub is_lower_digit : ℕ → Bool
is_lower_digit c = (nat_le 48 c && nat_le c 57) || (nat_le 97 c && nat_le c 102)

-- an even number of such digits
abbrev pub is_hex : List ℕ → Bool
is_hex digits = (length digits % 2 == 0) && list_all is_lower_digit digits

-- the bytes that such digits are
abbrev pub bytes_of : List ℕ → List ℕ
bytes_of digits = result_unwrap_or (decode_of digits) []
