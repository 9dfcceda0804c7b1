-- The words that stood at some addresses before those of another store came there.
use Rattle.std.specs.Prelude.{ℕ, ◌==◌, if◌then◌else◌, List, [], ◌∷◌, ◌++◌, length, slice_index, slice_set}
use Rattle.std.specs.List.{range_with_len}
use Rattle.debugger.specs.declared.undo_journal.former_words.FormerWord.{FormerWord}

-- the words, with the new one at an address
abbrev pub with_new_word : List ℕ → List ℕ → ℕ → List ℕ
with_new_word old new a = slice_set old a (slice_index new a)

-- the former word at that address, where it is another one
abbrev pub former_at : List ℕ → List ℕ → ℕ → List FormerWord
former_at old new a =
    if slice_index old a == slice_index new a then [] else (record { address = a; word = slice_index old a }) ∷ []

-- the words, with the new ones at these addresses, one after another
abbrev pub with_new_words : List ℕ → List ℕ → List ℕ → List ℕ
with_new_words old new [] = old
with_new_words old new (a ∷ addresses) = with_new_words (with_new_word old new a) new addresses

-- the former words at these addresses, in the same order
abbrev pub former_words : List ℕ → List ℕ → List ℕ → List FormerWord
former_words old new [] = []
former_words old new (a ∷ addresses) = former_at old new a ++ former_words (with_new_word old new a) new addresses

-- the words as they were before these former ones, of which the last is put back first
abbrev pub words_before : List FormerWord → List ℕ → List ℕ
words_before [] words = words
words_before (f ∷ fs) words = slice_set (words_before fs words) f.address f.word

-- the addresses of a store's words
abbrev pub addresses_of : List ℕ → List ℕ
addresses_of words = range_with_len 0 (length words)
