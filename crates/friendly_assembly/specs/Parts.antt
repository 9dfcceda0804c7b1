-- The parts of a line.
use Rattle.std.specs.Prelude.{ℕ, ◌+◌, ◌==◌, if◌then◌else◌, List, [], ◌∷◌, length}
use Rattle.std.specs.List.{onto_first}
use Rattle.friendly_assembly.specs.declared.parts.Part.{Part}
use Rattle.friendly_assembly.specs.declared.readings.Reading.{Reading}
use Rattle.friendly_assembly.specs.declared.readings.Reading.TheVariants.{Outside}
use Rattle.friendly_assembly.specs.declared.readings.Stop.TheVariants.{AtBlank}
use Rattle.friendly_assembly.specs.Readings.{ends_at, reading_after}

-- what is between the blanks and tabs outside of quotes; between two of them there is nothing
abbrev pub pieces : Reading → List ℕ → List (List ℕ)
pieces reading [] = []
pieces reading (c ∷ cs) =
    if ends_at AtBlank reading c then [] ∷ pieces Outside cs else onto_first c (pieces (reading_after reading c) cs)

-- the parts are the pieces that have bytes, each with its column; the first piece begins at this column
abbrev pub placed : ℕ → List (List ℕ) → List Part
placed column [] = []
placed column (piece ∷ others) =
    if length piece == 0 then placed (column + (length piece + 1)) others else
    record { column = column; text = piece } ∷ placed (column + (length piece + 1)) others

-- the parts of the bytes before the comment
unfoldable pub parts_of : List ℕ → List Part
parts_of code = placed 1 (pieces Outside code)
