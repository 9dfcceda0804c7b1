-- The words of a line, which are between blanks and tabs.
use Rattle.std.specs.Prelude.{ℕ, ◌==◌, ◌||◌, Bool, not, List, drop, length, take, Option, option_and_then, option_map, unwrap_or}
use Rattle.std.specs.List.{position}

-- whether a byte is between words
abbrev pub is_blank : ℕ → Bool
is_blank c = c == 32 || c == 9

-- how many bytes come before the first blank
abbrev pub word_length : List ℕ → ℕ
word_length text = unwrap_or (position is_blank text) (length text)

-- a text, cut where its first word ends
abbrev pub split_word : List ℕ → List ℕ × List ℕ
split_word text = (take (word_length text) text, drop (word_length text) text)

-- the first word of a text, and what comes after it
abbrev pub next_field : List ℕ → Option (List ℕ × List ℕ)
next_field text = option_map (λ i. split_word (drop i text)) (position (λ c. not (is_blank c)) text)

-- the first word
abbrev pub first_field : List ℕ → Option (List ℕ)
first_field text = option_map (λ x. x.0) (next_field text)

-- the second word
abbrev pub second_field : List ℕ → Option (List ℕ)
second_field text = option_and_then (λ x. first_field x.1) (next_field text)
