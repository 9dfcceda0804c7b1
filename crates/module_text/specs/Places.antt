-- Where the tokens of a text are.
use Rattle.std.specs.Prelude.{ℕ, ◌+◌, not, if◌then◌else◌, List, length, drop, Option, Some, None, nat_lt, option_and_then, slice_range}
use Rattle.std.specs.List.{prefix_len}
use Rattle.std.specs.Option.{option_map}
use Rattle.module_text.specs.Tokens.{is_blank}
use Rattle.module_text.specs.Words.{word_of}
use Rattle.module_text.specs.declared.tokens.NextWord.{NextWord}
use Rattle.module_text.specs.declared.tokens.Span.{Span}

-- the place after the blanks that begin at a place
abbrev pub token_start : List ℕ → ℕ → ℕ
token_start text from = from + prefix_len is_blank (drop from text)

-- the place after the bytes that are no blanks from a place on
abbrev pub token_end : List ℕ → ℕ → ℕ
token_end text from = from + prefix_len (λ c. not (is_blank c)) (drop from text)

-- the bytes of a text from one place up to another
abbrev pub span : ℕ → ℕ → Span
span start end = record { start = start; end = end }

-- the first token from a place on, if one is left
abbrev pub next_span : List ℕ → ℕ → Option Span
next_span text from =
    if nat_lt (token_start text from) (length text) then
    Some (span (token_start text from) (token_end text (token_start text from))) else None

-- the bytes of a token
abbrev pub bytes_in : List ℕ → Span → List ℕ
bytes_in text token = slice_range text token.start token.end

-- the first token from a place on as a word, and the place after it
abbrev pub next_word : List ℕ → ℕ → Option NextWord
next_word text from =
    option_and_then (λ token. option_map (λ word. record { word = word; end = token.end }) (word_of (bytes_in text token))) (next_span text from)
