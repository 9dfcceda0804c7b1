-- The words of a hunk, as lines of comment.
use Rattle.std.specs.Prelude.{ℕ, ◌+◌, ◌%◌, ◌==◌, ◌||◌, if◌then◌else◌, List, [], ◌∷◌, ◌++◌, length, codes, decimal}
use Rattle.byte_streams.specs.Pieces.{hex_digits_of}
use Rattle.module_text.specs.declared.modules.Hunk.{Hunk}

-- each eighth entry begins a line, with these bytes
abbrev pub line_begin : List ℕ → ℕ → List ℕ
line_begin mark i = if i % 8 == 0 then mark else []

-- a line ends after eight entries, and after the last of n
abbrev pub line_end : ℕ → ℕ → List ℕ
line_end i n = if (i % 8 == 7) || (i + 1 == n) then codes "\n" else []

-- entry i of n: a blank and its text, in its place of a line
abbrev pub entry_text : List ℕ → ℕ → ℕ → List ℕ → List ℕ
entry_text mark i n text = line_begin mark i ++ codes " " ++ text ++ line_end i n

-- words in hex, from word i of n on
abbrev pub words_from : ℕ → ℕ → List ℕ → List ℕ
words_from i n [] = []
words_from i n (w ∷ ws) = entry_text (codes "; WORDS") i n (hex_digits_of w) ++ words_from (i + 1) n ws

-- offsets in decimal, from offset i of n on
abbrev pub offsets_from : ℕ → ℕ → List ℕ → List ℕ
offsets_from i n [] = []
offsets_from i n (o ∷ os) = entry_text (codes "; RELOCATED") i n (decimal o) ++ offsets_from (i + 1) n os

-- all words of a hunk, eight a line, and then the offsets of those that are relocated
abbrev pub hunk_lines : Hunk → List ℕ
hunk_lines h = words_from 0 (length h.words) h.words ++ offsets_from 0 (length h.relocations) h.relocations
