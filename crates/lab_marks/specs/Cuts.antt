-- Where lines are cut.
use Rattle.std.specs.Prelude.{ℕ, ◌+◌, ◌==◌, ◌||◌, Bool, List, take, drop, Option, option_map}
use Rattle.std.specs.List.{position}

-- what is before the first byte that is this one, and what is after it
abbrev pub cut : ℕ → List ℕ → Option (List ℕ × List ℕ)
cut byte text = option_map (λ i. (take i text, drop (i + 1) text)) (position (λ c. c == byte) text)

-- whether a byte is between fields: a blank, a tab or a line end
abbrev pub is_gap : ℕ → Bool
is_gap byte = (byte == 32 || byte == 9) || byte == 10
