-- The tokens of a text.
use Rattle.std.specs.Prelude.{ℕ, ◌+◌, ◌==◌, ◌||◌, Bool, true, if◌then◌else◌, List, [], ◌∷◌, take, count_by}

-- a space, LF or CR
abbrev pub is_blank : ℕ → Bool
is_blank c = (c == 32) || (c == 10) || (c == 13)

-- a token's bytes, and the place of the first of them in the text
pub record Token : Type 0 where
  -- the place of its first byte
  pub place : ℕ
  -- its bytes
  pub bytes : List ℕ

-- whether a token ends before these bytes
abbrev pub ends_token : List ℕ → Bool
ends_token [] = true
ends_token (c ∷ cs) = is_blank c

-- the token of one byte
abbrev pub token : ℕ → ℕ → Token
token place c = record { place = place; bytes = c ∷ [] }

-- the first token with one more byte, at the place before it
abbrev pub onto_first_token : ℕ → ℕ → List Token → List Token
onto_first_token place c [] = token place c ∷ []
onto_first_token place c (t ∷ ts) = record { place = place; bytes = c ∷ t.bytes } ∷ ts

-- the tokens of bytes, the first of which is at this place: what blanks separate
abbrev pub tokens_from : ℕ → List ℕ → List Token
tokens_from place [] = []
tokens_from place (c ∷ cs) =
    if is_blank c then tokens_from (place + 1) cs else
    if ends_token cs then token place c ∷ tokens_from (place + 1) cs else
    onto_first_token place c (tokens_from (place + 1) cs)

-- the tokens of a text
abbrev pub tokens_of : List ℕ → List Token
tokens_of text = tokens_from 0 text

-- the line of a place, from 1: one more than the LF before it
abbrev pub line_at : List ℕ → ℕ → ℕ
line_at text place = 1 + count_by (λ c. c == 10) (take place text)
