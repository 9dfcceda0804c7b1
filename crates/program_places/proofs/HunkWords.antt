-- The words of a hunk, one after another.
use Rattle.std.proofs.Common.{◌≡◌, ℕ, List, [], ◌∷◌, ◌++◌, Option, Some, None, Result, Ok, Err, refl, sym, ap, append_assoc}
use Rattle.module_text.specs.TextReader.Refusal.{Refusal, refusal}
use Rattle.module_text.specs.TextReader.Steps.{◌>>=◌}
use Rattle.session_text.proofs.FieldParts.{fields-split, fields-whole}
use Rattle.session_text.specs.Statements.{fields, split_at_blank}
use Rattle.program_places.specs.Statements.{hunk_word, words_of}

-- words, and those after them
abbrev onto_words : List (Option ℕ) → Result (List (Option ℕ)) Refusal → Result (List (Option ℕ)) Refusal
onto_words read words = words >>= (λ more. Ok (read ++ more))

-- words that were read, and those of the fields after them
abbrev pub after_words : ℕ → List (Option ℕ) → List (List ℕ) → Result (List (Option ℕ)) Refusal
after_words n read parts = onto_words read (words_of n parts)

onto-none : (words : Result (List (Option ℕ)) Refusal) → onto_words [] words ≡ words
onto-none (Ok more) = refl
onto-none (Err e) = refl

-- nothing was read
pub words-all : (n : ℕ) (parts : List (List ℕ)) → after_words n [] parts ≡ words_of n parts
words-all n parts = onto-none (words_of n parts)

onto-one : (read : List (Option ℕ)) (word : Option ℕ) (words : Result (List (Option ℕ)) Refusal)
    → onto_words read (onto_words (word ∷ []) words) ≡ onto_words (read ++ word ∷ []) words
onto-one read word (Ok more) = ap (λ (ws : List (Option ℕ)). Ok ws) (sym (append_assoc read (word ∷ []) more))
onto-one read word (Err e) = refl

-- a field that is a word, and those after it
one-field : (n : ℕ) (read : List (Option ℕ)) (field : List ℕ) (others : List (List ℕ)) (word : Option ℕ) → hunk_word field ≡ Some word
    → after_words n read (field ∷ others) ≡ after_words n (read ++ word ∷ []) others
one-field n read field others word h = rw h (onto-one read word (words_of n others))

-- a field that is no word
no-field : (n : ℕ) (read : List (Option ℕ)) (field : List ℕ) (others : List (List ℕ)) → hunk_word field ≡ None → after_words n read (field ∷ others) ≡ Err (refusal n 1)
no-field n read field others h = rw h refl

-- a last field that is a word
last-field : (n : ℕ) (read : List (Option ℕ)) (field : List ℕ) (word : Option ℕ) → hunk_word field ≡ Some word → after_words n read (field ∷ []) ≡ Ok (read ++ word ∷ [])
last-field n read field word h = rw h refl

-- one word more
pub words-more : (n : ℕ) (read : List (Option ℕ)) (rest first others : List ℕ) (word : Option ℕ) → Some (first, others) ≡ split_at_blank rest → Some word ≡ hunk_word first
    → after_words n read (fields rest) ≡ after_words n (read ++ word ∷ []) (fields others)
words-more n read rest first others word e h = rw (fields-split rest (first, others) (sym e)) (one-field n read first (fields others) word (sym h))

-- a field that is no word, with others after it
pub words-none : (n : ℕ) (read : List (Option ℕ)) (rest first others : List ℕ) → Some (first, others) ≡ split_at_blank rest → None ≡ hunk_word first
    → after_words n read (fields rest) ≡ Err (refusal n 1)
words-none n read rest first others e h = rw (fields-split rest (first, others) (sym e)) (no-field n read first (fields others) (sym h))

-- the last word
pub words-last : (n : ℕ) (read : List (Option ℕ)) (rest : List ℕ) (word : Option ℕ) → None ≡ split_at_blank rest → Some word ≡ hunk_word rest
    → after_words n read (fields rest) ≡ Ok (read ++ word ∷ [])
words-last n read rest word e h = rw (fields-whole rest (sym e)) (last-field n read rest word (sym h))

-- a last field that is no word
pub words-none_last : (n : ℕ) (read : List (Option ℕ)) (rest : List ℕ) → None ≡ split_at_blank rest → None ≡ hunk_word rest
    → after_words n read (fields rest) ≡ Err (refusal n 1)
words-none_last n read rest e h = rw (fields-whole rest (sym e)) (no-field n read rest [] (sym h))
