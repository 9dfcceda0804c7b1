-- Words read from a text, one after another.
use Rattle.std.specs.Prelude.{ℕ, ◌≡◌, ◌<◌, ◌≤◌, List, length, drop, Some}
use Rattle.module_text.specs.Tokens.{tokens_from}
use Rattle.module_text.specs.Places.{next_word}
use Rattle.module_text.specs.ModuleForm.{AreWords}
use Rattle.module_text.specs.declared.tokens.NextWord.{NextWord}

-- the tokens of the text from a place on are these words, one each
abbrev pub Reads : List ℕ → ℕ → List ℕ → Type 0
Reads text place words = AreWords (tokens_from place (drop place text)) words

-- a word, and the place after it
abbrev pub read : ℕ → ℕ → NextWord
read word end = record { word = word; end = end }

-- The next word from the place on is this one. It ends further on, inside the text, and from there on the others are read.
pub record ReadsOn (text : List ℕ) (place word : ℕ) (words : List ℕ) : Type 0 where
  -- the place after it
  pub end : ℕ
  -- it is the next word
  pub next : next_word text place ≡ Some (read word end)
  -- it ends further on
  pub further : place < end
  -- it ends inside the text
  pub inside : end ≤ length text
  -- the others are read from there
  pub rest : Reads text end words
