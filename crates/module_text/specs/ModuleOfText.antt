-- A module read token by token, or the first token that cannot follow.
use Rattle.std.specs.Prelude.{ℕ, ◌≡◌, List, [], ◌∷◌, ◌++◌, length, Result, Ok, Err}
use Rattle.std.specs.Option.{ok_or}
use Rattle.module_text.specs.TextReader.Refusal.{Refusal, refusal}
use Rattle.module_text.specs.TextReader.Steps.{◌>>=◌}
use Rattle.module_text.specs.Tokens.{Token, line_at, tokens_of}
use Rattle.module_text.specs.Words.{word_of}
use Rattle.module_text.specs.Grammar.{finish, follow}
use Rattle.module_text.specs.declared.modules.Hunk.{Hunk}
use Rattle.module_text.specs.declared.modules.Module.{Module}
use Rattle.module_text.specs.declared.step.Step.{Step}
use Rattle.module_text.specs.declared.grammar.Expects.{Expects}
use Rattle.module_text.specs.declared.grammar.Expects.TheVariants.{FirstType, NextType, Length, Word, Count, Offset, Nothing}

-- a token's word, and what is expected after it
abbrev pub read_token : Expects → List ℕ → Result Step ℕ
read_token expects bytes = do
  word ← ok_or (word_of bytes) 1
  next ← follow expects word
  Ok (record { word = word; next = next })

-- where a reading stops: a place of the text, and a code
pub record Stop : Type 0 where
  -- the place in the text, in bytes
  pub place : ℕ
  -- the code that says why
  pub code : ℕ

-- the reading stops at a place, in bytes from the start of the text, with a code
abbrev pub stop : ℕ → ℕ → Stop
stop place code = record { place = place; code = code }

-- what a step gave; where it failed with a code, the reading stops at that place
abbrev pub or_stop : {A : Type 0} → ℕ → Result A ℕ → Result A Stop
or_stop place (Ok x) = Ok x
or_stop place (Err code) = Err (stop place code)

-- what the rest of a text adds to a module: words and offsets of the hunk that is being read, and further hunks
pub record Rest : Type 0 where
  -- the further words of the hunk that is being read
  pub words : List ℕ
  -- its further offsets
  pub relocations : List ℕ
  -- the hunks after it
  pub hunks : List Hunk

-- these words and relocations for the hunk that is being read, and the hunks after it
abbrev pub rest : List ℕ → List ℕ → List Hunk → Rest
rest words relocations hunks = record { words = words; relocations = relocations; hunks = hunks }

-- the hunk with these words, to some of which the hunk's own address is added when it is loaded
abbrev pub hunk : List ℕ → List ℕ → Hunk
hunk words relocations = record { words = words; relocations = relocations }

-- a word before the rest, of which this was expected: a length begins a hunk
abbrev pub put : Expects → ℕ → Rest → Rest
put FirstType word r = r
put (NextType length) word r = r
put Length word r = rest [] [] (hunk r.words r.relocations ∷ r.hunks)
put (Word more length) word r = rest (word ∷ r.words) r.relocations r.hunks
put (Count length) word r = r
put (Offset more length) word r = rest r.words (word ∷ r.relocations) r.hunks
put Nothing word r = r

-- hunks, with the rest after them: its words and offsets belong to the last hunk
abbrev pub with_rest : List Hunk → Rest → List Hunk
with_rest [] r = r.hunks
with_rest (h ∷ []) r = hunk (h.words ++ r.words) (h.relocations ++ r.relocations) ∷ r.hunks
with_rest (h ∷ k ∷ hs) r = h ∷ with_rest (k ∷ hs) r

-- other hunks come from hunks where words are put before whatever rest there is
abbrev pub Adds : (Rest → Rest) → List Hunk → List Hunk → Type 0
Adds put_before old new = (r : Rest) → with_rest new r ≡ with_rest old (put_before r)

-- the rest that the tokens are, before the text's end at this place
abbrev pub rest_of : Expects → ℕ → List Token → Result Rest Stop
rest_of expects end [] = do
  u ← or_stop end (finish expects)
  Ok (rest [] [] [])
rest_of expects end (t ∷ ts) = do
  s ← or_stop t.place (read_token expects t.bytes)
  r ← rest_of s.next end ts
  Ok (put expects s.word r)

-- the module of a whole rest, or the line where its reading stops
abbrev pub module_or_refusal : List ℕ → Result Rest Stop → Result Module Refusal
module_or_refusal text (Ok r) = Ok (record { hunks = r.hunks })
module_or_refusal text (Err s) = Err (refusal (line_at text s.place) s.code)

-- the module of a text
unfoldable pub module_of : List ℕ → Result Module Refusal
module_of text = module_or_refusal text (rest_of FirstType (length text) (tokens_of text))

-- the text is refused at this line with this code
abbrev pub IsRefused : List ℕ → ℕ → ℕ → Type 0
IsRefused text line code = module_of text ≡ Err (refusal line code)
