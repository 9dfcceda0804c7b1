-- Arithmetic of words, which are whole numbers below 2 ^ 32.
use Rattle.std.specs.Prelude.{ℕ, ℤ, pos, negsuc, ◌+◌, ◌-◌, ◌*◌, ◌/◌, ◌%◌, ◌^◌, ◌-ℤ◌, ◌*ℤ◌, Option, Some, None, nat_lt, int_div, int_rem, ◌==◌, if◌then◌else◌}

-- the sum of two words, modulo 2 ^ 32
abbrev pub add : ℕ → ℕ → ℕ
add x y = (x + y) % 2 ^ 32

-- the difference of two words, modulo 2 ^ 32
abbrev pub sub : ℕ → ℕ → ℕ
sub x y = (x + (2 ^ 32 - y)) % 2 ^ 32

-- the product of two words, modulo 2 ^ 32
abbrev pub mul : ℕ → ℕ → ℕ
mul x y = (x * y) % 2 ^ 32

-- a word as a signed number
abbrev pub signed : ℕ → ℤ
signed x = if nat_lt x (2 ^ 31) then pos x else pos x -ℤ pos (2 ^ 32)

-- a signed number, modulo 2 ^ 32
abbrev pub word_of : ℤ → ℕ
word_of (pos n) = n % 2 ^ 32
word_of (negsuc n) = 2 ^ 32 - 1 - n % 2 ^ 32

-- The quotient of two signed numbers goes toward zero. It is taken modulo 2 ^ 32, so the least number by -1 gives itself.
-- There is none by 0.
abbrev pub div : ℕ → ℕ → Option ℕ
div x y = if y == 0 then None else Some (word_of (int_div (signed x) (signed y)))

-- The remainder of two signed numbers has the sign of the first. There is none by 0.
abbrev pub rem : ℕ → ℕ → Option ℕ
rem x y = if y == 0 then None else Some (word_of (int_rem (signed x) (signed y)))

-- a word shifted left, with zeros at its low end; a shift by 32 or more gives 0
abbrev pub shl : ℕ → ℕ → ℕ
shl x y = if nat_lt y 32 then (x * 2 ^ y) % 2 ^ 32 else 0

-- a word shifted right, with zeros at its high end; a shift by 32 or more gives 0
abbrev pub shr : ℕ → ℕ → ℕ
shr x y = if nat_lt y 32 then x / 2 ^ y else 0

-- the product of signed numbers, divided toward zero: quotient and remainder modulo 2 ^ 32, or 0 and 0 by 0
abbrev pub mul_div : ℕ → ℕ → ℕ → ℕ × ℕ
mul_div a b c =
    if c == 0 then (0, 0) else
    (word_of (int_div (signed a *ℤ signed b) (signed c)), word_of (int_rem (signed a *ℤ signed b) (signed c)))
