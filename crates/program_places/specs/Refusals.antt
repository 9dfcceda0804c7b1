-- Where a map is refused.
use Rattle.std.specs.Prelude.{ℕ, ◌≡◌, ◌≤◌, ◌==◌, ◌&&◌, ◌||◌, ◌-◌, Bool, IsTrue, not, List, length, slice_index}
use Rattle.module_text.specs.TextReader.Lines.{lines_of}
use Rattle.module_text.specs.declared.text_reader.ends.TextEnd.{TextEnd}
use Rattle.module_text.specs.declared.text_reader.ends.TextEnd.TheVariants.{Bad, WantMemory}

-- a line is refused, unless memory ran out
abbrev pub IsBadAt : ℕ → TextEnd → Type 0
IsBadAt n (Bad line code) = (line ≡ n) × IsTrue (code == 1 || code == 2)
IsBadAt n WantMemory = Unit {0}

-- a text ends without a LF
abbrev pub is_cut_off : List ℕ → Bool
is_cut_off text = not (length text == 0) && not (slice_index text (length text - 1) == 10)

-- a map is refused at a line that it has, unless memory ran out: with code 3 at the last one, where that has no LF
abbrev pub IsRefusal : List ℕ → TextEnd → Type 0
IsRefusal text (Bad line code) =
    (line ≤ length (lines_of text)) × IsTrue (code == 1 || (code == 2 || code == 3))
    × (code ≡ 3 → (line ≡ length (lines_of text)) × IsTrue (is_cut_off text))
IsRefusal text WantMemory = Unit {0}
