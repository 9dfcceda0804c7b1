-- What a line gives to the hunk.
use Rattle.std.specs.Prelude.{ℕ, ◌+◌, ◌-◌, ◌*◌, ◌/◌, ◌%◌, ◌==◌, ◌&&◌, if◌then◌else◌, List, [], ◌∷◌, ◌++◌, nat_le, nat_lt, replicate, Some, None, Result, Ok, Err}
use Rattle.std.specs.Int.{w16, w32, to_le_bytes}
use Rattle.std.specs.Option.{ok_or}
use Rattle.assembly.specs.AssemblyText.Labels.{Table}
use Rattle.assembly.specs.AssemblyText.Places.{rounded_up}
use Rattle.module_text.specs.TextReader.Steps.{◌>>=◌}
use Rattle.assembly.specs.declared.assembly_text.errors.LineError.{LineError}
use Rattle.assembly.specs.declared.assembly_text.errors.LineError.TheVariants.{UndefinedLabel, OutOfReach}
use Rattle.assembly.specs.declared.assembly_text.pieces.Piece.{Piece}
use Rattle.assembly.specs.declared.assembly_text.places.Place.{Place}
use Rattle.assembly.specs.declared.assembly_text.statements.Boundary.TheVariants.{Half, Word}
use Rattle.assembly.specs.declared.assembly_text.statements.Statement.{Statement}
use Rattle.assembly.specs.declared.assembly_text.statements.Statement.TheVariants.{Fixed, Relative, Indirect, Reserve, Address, Align, Global}

-- bytes alone
abbrev pub plain : List ℕ → Piece
plain bytes = record { bytes = bytes; relocation = None; pair = None }

-- the zero bytes from an offset to another
abbrev pub zeros : ℕ → ℕ → List ℕ
zeros from to = replicate (to - from) 0

-- the place of a label
abbrev pub found : Table → List ℕ → Result Place LineError
found table label = ok_or (table label) UndefinedLabel

-- The distance from an offset to another, which is from -half to half - 1. A negative one has twice half added.
abbrev pub distance : ℕ → ℕ → ℕ → Result ℕ LineError
distance half from to =
    if nat_le from (to + half) && nat_lt to (from + half) then Ok ((to + 2 * half - from) % (2 * half)) else Err OutOfReach

-- Half the distance from the even offset at or before the operand byte to a reserved halfword, which is from 0 to 255.
abbrev pub half_distance : ℕ → Place → Result ℕ LineError
half_distance from place =
    if place.is_reserve && nat_le (from / 2 * 2) place.offset && nat_le ((place.offset - from / 2 * 2) / 2) 255 then Ok ((place.offset - from / 2 * 2) / 2) else
    Err OutOfReach

-- an address in words, of a label on a word boundary
abbrev pub word_address : Place → Result ℕ LineError
word_address place = if place.offset % 4 == 0 then Ok (place.offset / 4) else Err OutOfReach

-- the operand byte comes after the instruction's own byte
abbrev pub relative : Table → ℕ → ℕ → List ℕ → Result Piece LineError
relative table offset byte label = do
  place ← found table label
  operand ← distance 128 (offset + 1) place.offset
  Ok (plain (byte ∷ operand ∷ []))

-- the operand byte leads to a word near it, which has the address of the label
abbrev pub indirect : Table → ℕ → ℕ → List ℕ → Result Piece LineError
indirect table offset byte label = do
  place ← found table label
  operand ← half_distance (offset + 1) place
  Ok (plain (byte ∷ operand ∷ []))

-- a halfword on its boundary: the distance from itself to the label
abbrev pub reserved : Table → ℕ → List ℕ → Result Piece LineError
reserved table offset label = do
  place ← found table label
  half ← distance 32768 (rounded_up Half offset) place.offset
  Ok (plain (zeros offset (rounded_up Half offset) ++ to_le_bytes w16 half))

-- a word on its boundary, and its own offset in words as a relocation
abbrev pub address : Table → ℕ → List ℕ → Result Piece LineError
address table offset label = do
  place ← found table label
  word ← word_address place
  Ok (record {
    bytes = zeros offset (rounded_up Word offset) ++ to_le_bytes w32 word;
    relocation = Some (rounded_up Word offset / 4);
    pair = None;
  })

-- a global's number and its value
abbrev pub global_pair : Table → ℕ → List ℕ → Result Piece LineError
global_pair table number label = do
  place ← found table label
  Ok (record { bytes = []; relocation = None; pair = Some (number, place.offset) })

-- what the line gives at its offset, where the labels name what the table says
unfoldable pub piece_of : Table → ℕ → Statement → Result Piece LineError
piece_of table offset (Fixed bytes) = Ok (plain bytes)
piece_of table offset (Relative byte label) = relative table offset byte label
piece_of table offset (Indirect byte label) = indirect table offset byte label
piece_of table offset (Reserve label) = reserved table offset label
piece_of table offset (Address label) = address table offset label
piece_of table offset (Align boundary) = Ok (plain (zeros offset (rounded_up boundary offset)))
piece_of table offset (Global number label) = global_pair table number label
