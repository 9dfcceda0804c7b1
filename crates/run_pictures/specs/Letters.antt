-- The letters of a text, and its blanks.
use Rattle.std.specs.Prelude.{ℕ, ◌==◌, not, if◌then◌else◌, List, [], ◌∷◌, reverse}
use Rattle.std.specs.List.{filter}

-- the bytes that are no blanks
abbrev pub letters : List ℕ → List ℕ
letters text = filter (λ c. not (c == 32)) text

-- a text without the blanks that it begins with
abbrev pub without_blanks : List ℕ → List ℕ
without_blanks [] = []
without_blanks (c ∷ cs) = if c == 32 then without_blanks cs else c ∷ cs

-- a text without the blanks that it ends with
abbrev pub without_last_blanks : List ℕ → List ℕ
without_last_blanks text = reverse (without_blanks (reverse text))
