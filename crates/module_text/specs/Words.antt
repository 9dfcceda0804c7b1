-- The word that a token is.
use Rattle.std.specs.Prelude.{ℕ, List, Option}
use Rattle.module_text.specs.TextReader.Numbers.{IsNumberIn, number_in}

-- a word is 1 to 8 hex digits of either case
abbrev pub IsWord : List ℕ → ℕ → Type 0
IsWord digits word = IsNumberIn 16 8 digits word

-- the word that a token is, if it is one
abbrev pub word_of : List ℕ → Option ℕ
word_of digits = number_in 16 8 digits
