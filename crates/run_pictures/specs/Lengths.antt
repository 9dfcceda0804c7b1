-- Lengths, in billionths of a pixel.
use Rattle.std.specs.Prelude.{ℕ, ◌+◌, ◌-◌, ◌^◌, ◌/◌, ◌%◌, ◌==◌, ◌&&◌, ◌||◌, min, nat_lt, if◌then◌else◌}

-- so many parts, or the most that a length has
abbrev pub at_most : ℕ → ℕ
at_most parts = min parts (2 ^ 64 - 1)

-- whole tenths, or one more where so much is left: the nearest, and of two that are as near the even one
abbrev pub rounded : ℕ → ℕ → ℕ
rounded whole left = if nat_lt 50000000 left || left == 50000000 && whole % 2 == 1 then whole + 1 else whole

-- the tenths of a pixel of a length
abbrev pub in_tenths : ℕ → ℕ
in_tenths parts = rounded (parts / 100000000) (parts % 100000000)
