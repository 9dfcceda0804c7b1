-- What a module's text is.
use Rattle.std.specs.Prelude.{ℕ, ◌≡◌, ◌<◌, List, [], ◌∷◌, ◌++◌, length}
use Rattle.std.specs.List.{AllByRecursion, concat, flat_map}
use Rattle.module_text.specs.Tokens.{Token, tokens_of}
use Rattle.module_text.specs.Words.{IsWord}
use Rattle.module_text.specs.declared.modules.Hunk.{Hunk}
use Rattle.module_text.specs.declared.modules.Module.{Module}

-- the word with which a hunk begins
abbrev pub hunk_type : ℕ
hunk_type = 0x3e8

-- the word with which the list of a hunk's relocations begins
abbrev pub relocation_type : ℕ
relocation_type = 0x3e9

-- the word with which a module ends
abbrev pub end_word : ℕ
end_word = 0x3ea

-- an item: its type, the number of its words, and its words
abbrev pub item : ℕ → List ℕ → List ℕ
item type words = type ∷ length words ∷ words

-- the relocation lists of a hunk, one after another
abbrev pub relocation_items : List (List ℕ) → List ℕ
relocation_items lists = flat_map (item relocation_type) lists

-- the words are a hunk and its relocation lists, whose offsets, joined in order, lie inside the hunk
pub record IsHunk (h : Hunk) (words : List ℕ) : Type 0 where
  -- its relocation lists
  pub lists : List (List ℕ)
  -- its words and these lists are all words
  pub all : words ≡ item hunk_type h.words ++ relocation_items lists
  -- its relocations are those of the lists, in their order
  pub offsets : h.relocations ≡ concat lists
  -- each relocates one of its words
  pub inside : AllByRecursion (λ offset. offset < length h.words) h.relocations

-- the words are hunks, one after another, and the end word
abbrev pub AreHunks : List Hunk → List ℕ → Type 0
AreHunks [] words = words ≡ end_word ∷ []
AreHunks (h ∷ hs) words = (front rest : List ℕ) × (words ≡ front ++ rest) × IsHunk h front × AreHunks hs rest

-- the tokens are the words, one each
abbrev pub AreWords : List Token → List ℕ → Type 0
AreWords [] [] = Unit {0}
AreWords [] (w ∷ ws) = ⊥
AreWords (t ∷ ts) [] = ⊥
AreWords (t ∷ ts) (w ∷ ws) = IsWord t.bytes w × AreWords ts ws

-- the text is a text of the module
abbrev pub IsModule : List ℕ → Module → Type 0
IsModule text m = (words : List ℕ) × AreWords (tokens_of text) words × AreHunks m.hunks words
