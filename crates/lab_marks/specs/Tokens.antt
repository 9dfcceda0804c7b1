-- The tokens of an expression.
use Rattle.std.specs.Prelude.{ℕ, zero, suc, ◌==◌, not, Bool, if◌then◌else◌, List, [], ◌∷◌, length, take, drop, Option, Some, None}
use Rattle.std.specs.Char.{is_ascii_digit, is_ascii_lowercase}
use Rattle.std.specs.List.{position_or_len}
use Rattle.std.specs.Option.{option_map_or}
use Rattle.lab_marks.specs.declared.arithmetic.By.TheVariants.{Times, Over, Remainder}
use Rattle.lab_marks.specs.declared.arithmetic.Sign.TheVariants.{Plus, Minus}
use Rattle.lab_marks.specs.declared.tokens.Placed.{Placed}
use Rattle.lab_marks.specs.declared.tokens.Token.{Token}
use Rattle.lab_marks.specs.declared.tokens.Token.TheVariants.{Digits, Name, Open, Close, Sign, By, Other}

-- a text without the blanks that it begins with
abbrev pub without_blanks : List ℕ → List ℕ
without_blanks [] = []
without_blanks (c ∷ cs) = if c == 32 then without_blanks cs else c ∷ cs

-- how many bytes that pass a test a text begins with
abbrev pub run_end : (ℕ → Bool) → List ℕ → ℕ
run_end passes text = position_or_len (λ c. not (passes c)) text

-- the token that one byte is
abbrev pub mark_of : ℕ → Token
mark_of byte =
    if byte == 40 then Open else
    if byte == 41 then Close else
    if byte == 43 then Sign Plus else
    if byte == 45 then Sign Minus else
    if byte == 42 then By Times else
    if byte == 47 then By Over else
    if byte == 37 then By Remainder else
    Other

-- the token with which a text begins, and what comes after it; the text has this byte, and then these others
abbrev pub token_at : ℕ → List ℕ → List ℕ → Token × List ℕ
token_at first others text =
    if is_ascii_digit first then (Digits (take (run_end is_ascii_digit text) text), drop (run_end is_ascii_digit text) text) else
    if is_ascii_lowercase first then (Name (take (run_end is_ascii_lowercase text) text), drop (run_end is_ascii_lowercase text) text) else
    (mark_of first, others)

-- the first token of a text that does not begin with a blank, and what comes after it
abbrev pub token_of : List ℕ → Option (Placed × List ℕ)
token_of [] = None
token_of (first ∷ others) =
    Some (record { token = (token_at first others (first ∷ others)).0; rest = first ∷ others }, (token_at first others (first ∷ others)).1)

-- the first token of a text, and what comes after it
abbrev pub next_token : List ℕ → Option (Placed × List ℕ)
next_token text = token_of (without_blanks text)

-- the tokens of a text that has no more than so many
abbrev pub tokens_within : ℕ → List ℕ → List Placed
tokens_within zero text = []
tokens_within (suc most) text = option_map_or (λ t. t.0 ∷ tokens_within most t.1) (next_token text) []

-- the tokens of a text: each takes one byte at least
abbrev pub tokens_of : List ℕ → List Placed
tokens_of text = tokens_within (length text) text
