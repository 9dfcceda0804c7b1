-- Texts that a session may have.
use Rattle.std.specs.Prelude.{ℕ, ◌+◌, ◌==◌, ◌||◌, not, if◌then◌else◌, Bool, List, [], ◌∷◌, Option, Some, None}
use Rattle.std.specs.Char.{is_ascii_graphic}
use Rattle.std.specs.List.{position}
use Rattle.session_making.specs.declared.texts.ByteAt.{ByteAt}
use Rattle.session_making.specs.declared.texts.Spot.{Spot}

-- a byte from the blank to `~`
abbrev pub is_shown : ℕ → Bool
is_shown c = is_ascii_graphic c || (c == 32)

-- where the first other byte is
abbrev pub bad_byte : List ℕ → Option ℕ
bad_byte text = position (λ c. not (is_shown c)) text

-- a byte that a file may have
abbrev pub is_fine : ℕ → Bool
is_fine c = (c == 10) || is_shown c

-- the place of the first byte
abbrev pub first_spot : Spot
first_spot = record { line = 1; column = 1 }

-- the place after a byte
abbrev pub after_byte : Spot → ℕ → Spot
after_byte spot c =
    if c == 10 then record { line = spot.line + 1; column = 1 } else record { line = spot.line; column = spot.column + 1 }

-- the first byte of a text that no file may have; the text begins at this place
abbrev pub bad_place : Spot → List ℕ → Option ByteAt
bad_place spot [] = None
bad_place spot (c ∷ cs) = if is_fine c then bad_place (after_byte spot c) cs else Some (record { spot = spot; byte = c })
