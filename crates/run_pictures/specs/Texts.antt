-- Fields and numbers at the front of a text.
use Rattle.std.specs.Prelude.{ℕ, ◌==◌, not, List, [], ◌∷◌, length, take, drop, Option, Some, None, option_map}
use Rattle.std.specs.Char.{is_ascii_digit}
use Rattle.std.specs.List.{position}
use Rattle.std.specs.Option.{unwrap_or}
use Rattle.module_text.specs.TextReader.Numbers.{number_of}
use Rattle.run_pictures.specs.Letters.{without_blanks}

-- how many bytes there are before the first blank
abbrev pub field_end : List ℕ → ℕ
field_end line = unwrap_or (position (λ c. c == 32) line) (length line)

-- what is before the first blank, and what comes after that
abbrev pub field_of : List ℕ → Option (List ℕ × List ℕ)
field_of [] = None
field_of (c ∷ cs) = Some (take (field_end (c ∷ cs)) (c ∷ cs), drop (field_end (c ∷ cs)) (c ∷ cs))

-- the first field of a line, and what comes after it
abbrev pub next_field : List ℕ → Option (List ℕ × List ℕ)
next_field line = field_of (without_blanks line)

-- how many digits a text begins with
abbrev pub digits_end : List ℕ → ℕ
digits_end text = unwrap_or (position (λ c. not (is_ascii_digit c)) text) (length text)

-- the number with which a text begins, and what comes after it
abbrev pub leading_number : List ℕ → Option (ℕ × List ℕ)
leading_number text = option_map (λ n. (n, drop (digits_end text) text)) (number_of (take (digits_end text) text))
