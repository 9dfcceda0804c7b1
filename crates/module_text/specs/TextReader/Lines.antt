-- The lines of a text.
use Rattle.std.specs.Prelude.{ℕ, ◌==◌, ◌&&◌, if◌then◌else◌, List, [], ◌∷◌, ◌++◌, nat_eq}
use Rattle.std.specs.List.{flat_map, onto_first, starts_with}

-- A line ends with LF or with CR LF, and the last may lack its end. Any other CR is a byte of its line.
abbrev pub lines_of : List ℕ → List (List ℕ)
lines_of [] = []
lines_of (c ∷ cs) =
    if c == 10 then [] ∷ lines_of cs else
    if (c == 13) && starts_with nat_eq cs (10 ∷ []) then lines_of cs else
    onto_first c (lines_of cs)

-- lines as a text, each ended by LF
abbrev pub text_of_lines : List (List ℕ) → List ℕ
text_of_lines lines = flat_map (λ line. line ++ 10 ∷ []) lines
