-- Which word may follow which in a module's text.
use Rattle.std.specs.Prelude.{ℕ, ◌-◌, ◌==◌, if◌then◌else◌, Result, Ok, Err, nat_lt}
use Rattle.module_text.specs.ModuleForm.{end_word, hunk_type, relocation_type}
use Rattle.module_text.specs.declared.grammar.Expects.{Expects}
use Rattle.module_text.specs.declared.grammar.Expects.TheVariants.{FirstType, NextType, Length, Word, Count, Offset, Nothing}

-- the type of the first item is a hunk's, or the end word is there
abbrev pub first_type : ℕ → Result Expects ℕ
first_type word =
    if word == hunk_type then Ok Length else
    if word == end_word then Ok Nothing else
    Err 3

-- after another item a relocation list may come too
abbrev pub type_after : ℕ → ℕ → Result Expects ℕ
type_after length word = if word == relocation_type then Ok (Count length) else first_type word

-- so many words, then a type
abbrev pub words_or_type : ℕ → ℕ → Expects
words_or_type left length = if left == 0 then NextType length else Word (left - 1) length

-- so many offsets, then a type
abbrev pub offsets_or_type : ℕ → ℕ → Expects
offsets_or_type left length = if left == 0 then NextType length else Offset (left - 1) length

-- what is expected after a word, or the code of a word that cannot be there
abbrev pub follow : Expects → ℕ → Result Expects ℕ
follow FirstType word = first_type word
follow (NextType length) word = type_after length word
follow Length word = Ok (words_or_type word word)
follow (Word more length) word = Ok (words_or_type more length)
follow (Count length) word = Ok (offsets_or_type word length)
follow (Offset more length) word = if nat_lt word length then Ok (offsets_or_type more length) else Err 4
follow Nothing word = Err 6

-- nothing is left to come, or else the code of a text that ends here
abbrev pub finish : Expects → Result Unit ℕ
finish FirstType = Err 5
finish (NextType length) = Err 5
finish Length = Err 2
finish (Word more length) = Err 2
finish (Count length) = Err 2
finish (Offset more length) = Err 2
finish Nothing = Ok tt
