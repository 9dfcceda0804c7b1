-- The printed text of a module.
use Rattle.std.specs.Prelude.{ℕ, ◌+◌, ◌%◌, ◌^◌, ◌<◌, ◌==◌, ◌||◌, if◌then◌else◌, List, [], ◌∷◌, ◌++◌, length, codes}
use Rattle.std.specs.List.{AllByRecursion, flat_map}
use Rattle.byte_streams.specs.Pieces.{hex_digits_of, joined}
use Rattle.module_text.specs.ModuleForm.{end_word, hunk_type, relocation_type}
use Rattle.module_text.specs.declared.modules.Hunk.{Hunk}
use Rattle.module_text.specs.declared.modules.Module.{Module}

-- a hunk that can be printed
pub record IsPrintableHunk (h : Hunk) : Type 0 where
  -- its length is one that a text may have
  pub words : length h.words < 2 ^ 30
  -- so is the number of its relocations
  pub relocations : length h.relocations < 2 ^ 32
  -- each relocates one of its words
  pub inside : AllByRecursion (λ offset. offset < length h.words) h.relocations

-- each hunk of the module can be printed
abbrev pub IsPrintable : Module → Type 0
IsPrintable m = AllByRecursion IsPrintableHunk m.hunks

-- each word of the module is below 2 ^ 32
abbrev pub HasWords : Module → Type 0
HasWords m = AllByRecursion (λ h. AllByRecursion (λ w. w < 2 ^ 32) h.words) m.hunks

-- what comes after word i of n: LF after each eighth word and after the last one, else a space
abbrev pub after_word : ℕ → ℕ → List ℕ
after_word i n = if (i % 8 == 7) || (i + 1 == n) then codes "\n" else codes " "

-- word i of n, as eight hex digits, and what comes after it
abbrev pub word_text : ℕ → ℕ → ℕ → List ℕ
word_text i n w = joined (hex_digits_of w ∷ after_word i n ∷ [])

-- the words from word i of n on
abbrev pub words_text : ℕ → ℕ → List ℕ → List ℕ
words_text i n [] = []
words_text i n (w ∷ ws) = word_text i n w ++ words_text (i + 1) n ws

-- the line with the type of an item and the number of its words
abbrev pub head_text : ℕ → ℕ → List ℕ
head_text type count = joined (hex_digits_of type ∷ codes " " ∷ hex_digits_of count ∷ codes "\n" ∷ [])

-- an item: that line, and then its words, eight a line
abbrev pub item_text : ℕ → List ℕ → List ℕ
item_text type words = head_text type (length words) ++ words_text 0 (length words) words

-- all relocations of a hunk as one item, if there are any
abbrev pub relocations_text : List ℕ → List ℕ
relocations_text [] = []
relocations_text (offset ∷ offsets) = item_text relocation_type (offset ∷ offsets)

-- a hunk and its relocations
abbrev pub text_of_hunk : Hunk → List ℕ
text_of_hunk h = item_text hunk_type h.words ++ relocations_text h.relocations

-- the line of the end word
abbrev pub end_text : List ℕ
end_text = joined (hex_digits_of end_word ∷ codes "\n" ∷ [])

-- the hunks and the end word
unfoldable pub printed : Module → List ℕ
printed m = flat_map text_of_hunk m.hunks ++ end_text
