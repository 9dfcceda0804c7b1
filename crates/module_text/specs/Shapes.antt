-- How large a module is.
use Rattle.std.specs.Prelude.{ℕ, ◌+◌, List, length, Result, Ok, Err, sum_by}
use Rattle.module_text.specs.ModuleOfText.{module_of}
use Rattle.module_text.specs.TextReader.Refusal.{Refusal}
use Rattle.module_text.specs.declared.modules.Module.{Module}
use Rattle.module_text.specs.declared.modules.Hunk.{Hunk}
use Rattle.module_text.specs.declared.check.Shape.{Shape}
use Rattle.module_text.specs.declared.grammar.Expects.{Expects}
use Rattle.module_text.specs.declared.grammar.Expects.TheVariants.{FirstType, NextType, Length, Word, Count, Offset, Nothing}

-- a module of so many hunks, which have so many words together
abbrev pub shape : ℕ → ℕ → Shape
shape hunks words = record { hunks = hunks; words = words }

-- the number of words in all hunks
abbrev pub words_in : List Hunk → ℕ
words_in hunks = sum_by (λ h. length h.words) hunks

-- the number of hunks, and of words in all of them
abbrev pub shape_of : List Hunk → Shape
shape_of hunks = shape (length hunks) (words_in hunks)

-- the shape, where a word was read of which this was expected: a length begins a hunk
abbrev pub counted : Shape → Expects → Shape
counted s FirstType = s
counted s (NextType length) = s
counted s Length = shape (s.hunks + 1) s.words
counted s (Word more length) = shape s.hunks (s.words + 1)
counted s (Count length) = s
counted s (Offset more length) = s
counted s Nothing = s

-- the shape of a text's module, or the code with which it is refused
abbrev pub check : Result Module Refusal → Result Shape ℕ
check (Ok m) = Ok (shape_of m.hunks)
check (Err e) = Err e.code

-- the shape of the module that a text is, or the code with which it is refused
abbrev pub check_of : List ℕ → Result Shape ℕ
check_of text = check (module_of text)
