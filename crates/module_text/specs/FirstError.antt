-- Which token of a text is the first in error, and why.
use Rattle.std.specs.Prelude.{ℕ, ◌≡◌, ◌<◌, ◌⊎◌, List, [], ◌∷◌, ◌++◌, length}
use Rattle.module_text.specs.Tokens.{Token, line_at, tokens_of}
use Rattle.module_text.specs.Words.{IsWord}
use Rattle.module_text.specs.ModuleForm.{AreHunks, AreWords, end_word, item, relocation_type}
use Rattle.module_text.specs.declared.modules.Hunk.{Hunk}

-- ---- where words may end

-- the words are a whole module's
abbrev pub IsWhole : List ℕ → Type 0
IsWhole words = (hunks : List Hunk) × AreHunks hunks words

-- some module's words begin with these
abbrev pub BeginModule : List ℕ → Type 0
BeginModule words = (more : List ℕ) × IsWhole (words ++ more)

-- an item could begin after the words: with the end word they are a whole module's
abbrev pub IsTypeDue : List ℕ → Type 0
IsTypeDue words = IsWhole (words ++ end_word ∷ [])

-- what follows the type of an item is nothing, or a number and fewer words than that
abbrev pub IsCutOff : List ℕ → List ℕ → Type 0
IsCutOff rest words = ((rest ≡ []) × (words ≡ [])) ⊎ ((count : ℕ) × (rest ≡ count ∷ words) × (length words < count))

-- The words end inside an item. If it had only the words that are there, another could begin after it.
pub record IsInsideItem (words : List ℕ) : Type 0 where
  -- the words before the item
  pub front : List ℕ
  -- its type
  pub type : ℕ
  -- the words after that
  pub rest : List ℕ
  -- the words of the item that are there
  pub there : List ℕ
  -- these are all words
  pub all : words ≡ front ++ type ∷ rest
  -- an item could begin where it does
  pub before : IsTypeDue front
  -- some of its words are not there
  pub cut_off : IsCutOff rest there
  -- with those alone another item could follow
  pub so_far : IsTypeDue (front ++ item type there)

-- the words end inside a relocation list, and its number was read: an offset is due
pub record IsOffsetDue (words : List ℕ) : Type 0 where
  -- the words before the list
  pub front : List ℕ
  -- the number of its offsets
  pub count : ℕ
  -- the offsets that are there
  pub offsets : List ℕ
  -- these are all words
  pub all : words ≡ front ++ relocation_type ∷ count ∷ offsets
  -- an item could begin where it does
  pub before : IsTypeDue front
  -- some offsets are not there
  pub few : length offsets < count
  -- with those alone another item could follow
  pub so_far : IsTypeDue (front ++ item relocation_type offsets)

-- the words are a module's as far as they go: whole, or up to where an item could begin, or up to a place inside an item
abbrev pub IsBegun : List ℕ → Type 0
IsBegun words = IsWhole words ⊎ (IsTypeDue words ⊎ IsInsideItem words)

-- ---- what is wrong with a token after words

-- the bytes are the digits of some word
abbrev pub HasWord : List ℕ → Type 0
HasWord bytes = (w : ℕ) × IsWord bytes w

-- the token is no word
abbrev pub IsNoWord : List ℕ → List ℕ → Type 0
IsNoWord words bytes = ¬ HasWord bytes

-- the token is a word, and should be a type
abbrev pub IsNoType : List ℕ → List ℕ → Type 0
IsNoType words bytes = HasWord bytes × IsTypeDue words

-- the token is a word, and should be an offset
abbrev pub IsNoOffset : List ℕ → List ℕ → Type 0
IsNoOffset words bytes = HasWord bytes × IsOffsetDue words

-- the token is a word after a whole module
abbrev pub IsBeyond : List ℕ → List ℕ → Type 0
IsBeyond words bytes = HasWord bytes × IsWhole words

-- ---- texts

-- The words before a token on this line are begun, and with it they are not. Why holds of them and it.
pub record IsFirstError (text : List ℕ) (line : ℕ) (Why : List ℕ → List ℕ → Type 0) : Type 0 where
  -- the tokens before it
  pub front : List Token
  -- the token
  pub token : Token
  -- the tokens after it
  pub after : List Token
  -- the words that those before it are
  pub words : List ℕ
  -- these are all tokens
  pub all : tokens_of text ≡ front ++ token ∷ after
  -- the number of its line, from 1
  pub at : line ≡ line_at text token.place
  -- the tokens before it are these words
  pub before : AreWords front words
  -- a module begins with them
  pub begun : IsBegun words
  -- none begins with them and it
  pub up_to : (w : ℕ) → IsWord token.bytes w → ¬ IsBegun (words ++ w ∷ [])
  -- why it is refused
  pub why : Why words token.bytes

-- all tokens are words, of which Why holds, and the text ends on this line
pub record EndsEarly (text : List ℕ) (line : ℕ) (Why : List ℕ → Type 0) : Type 0 where
  -- the words that the tokens are
  pub words : List ℕ
  -- all tokens are words
  pub all : AreWords (tokens_of text) words
  -- the number of the line on which the text ends, from 1
  pub at : line ≡ line_at text (length text)
  -- why it is refused
  pub why : Why words
