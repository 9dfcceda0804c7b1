-- How a text is escaped in an SVG.
use Rattle.std.specs.Prelude.{ℕ, ◌==◌, if◌then◌else◌, List, [], ◌∷◌, codes}
use Rattle.std.specs.List.{flat_map}

-- a byte, as it is in a text of an SVG
abbrev pub escaped_letter : ℕ → List ℕ
escaped_letter c =
    if c == 38 then codes "&amp;" else
    if c == 60 then codes "&lt;" else
    if c == 62 then codes "&gt;" else
    c ∷ []

-- bytes, as they are in a text of an SVG
abbrev pub escaped : List ℕ → List ℕ
escaped text = flat_map escaped_letter text
