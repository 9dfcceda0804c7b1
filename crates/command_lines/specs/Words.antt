-- A line's first word, and what follows it.
use Rattle.std.specs.Prelude.{ℕ, ◌==◌, List, drop, not}
use Rattle.std.specs.List.{before_first, position_or_len}

-- the line from its first byte on that is no space
abbrev pub after_spaces : List ℕ → List ℕ
after_spaces line = drop (position_or_len (λ c. not (c == 32)) line) line

-- from there up to the next space, or the line's end; a quote is a byte as others
abbrev pub first_word : List ℕ → List ℕ
first_word line = before_first (λ c. c == 32) (after_spaces line)

-- what comes after it
abbrev pub rest_of : List ℕ → List ℕ
rest_of line = drop (position_or_len (λ c. c == 32) (after_spaces line)) (after_spaces line)
