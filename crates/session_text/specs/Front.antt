-- The lines of a session that other lines follow.
use Rattle.std.specs.Prelude.{ℕ, zero, suc, ◌+◌, ◌==◌, if◌then◌else◌, List, [], ◌∷◌, codes, nat_eq, take}
use Rattle.std.specs.List.{starts_with}
use Rattle.module_text.specs.TextReader.Lines.{lines_of}

-- how many lines there are up to the first that begins with `GO `, that one included; all where there is none
abbrev pub front_count : List (List ℕ) → ℕ
front_count [] = 0
front_count (line ∷ lines) = if starts_with nat_eq line (codes "GO ") then 1 else front_count lines + 1

-- those lines
abbrev pub front_lines : List ℕ → List (List ℕ)
front_lines text = take (front_count (lines_of text)) (lines_of text)

-- the place after so many lines of a text, each with its LF
abbrev pub place_after : ℕ → List ℕ → ℕ
place_after zero text = 0
place_after (suc n) [] = 0
place_after (suc n) (c ∷ cs) = (if c == 10 then place_after n cs else place_after (suc n) cs) + 1

-- the place after the front
abbrev pub front_end : List ℕ → ℕ
front_end text = place_after (front_count (lines_of text)) text
