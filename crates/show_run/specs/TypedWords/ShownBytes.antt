-- How bytes are shown.
use Rattle.std.specs.Prelude.{ℕ, ◌≡◌, ◌==◌, ◌&&◌, ◌||◌, Bool, if◌then◌else◌, List, [], ◌∷◌, ◌++◌, codes, nat_le}
use Rattle.std.specs.List.{flat_map}
use Rattle.hex.specs.Hex.{encode_lower}

-- a byte is shown as it is: a tab, a LF, or one from the blank to `~`
abbrev pub is_plain : ℕ → Bool
is_plain c = c == 9 || (c == 10 || nat_le 32 c && nat_le c 126)

-- a byte as it is shown
abbrev pub shown_byte : ℕ → List ℕ
shown_byte c = if is_plain c then c ∷ [] else codes "\\x" ++ encode_lower (c ∷ [])

-- bytes as they are shown
abbrev pub shown : List ℕ → List ℕ
shown bytes = flat_map shown_byte bytes

-- a text is another one, and something may come after that
abbrev pub GoesOnFrom : List ℕ → List ℕ → Type 0
GoesOnFrom before text = (more : List ℕ) × (text ≡ before ++ more)
