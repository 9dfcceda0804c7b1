-- Byte addresses, rounded to even ones, modulo 2 ^ 32.
use Rattle.std.specs.Prelude.{ℕ, ◌*◌, ◌/◌}
use Rattle.word_store.specs.Arithmetic.{add}

-- the address, or the one below an odd address
abbrev pub even_below : ℕ → ℕ
even_below a = 2 * (a / 2)

-- the address, or the one above an odd address
abbrev pub even_above : ℕ → ℕ
even_above a = even_below (add a 1)
