-- The plan of the marks: bytes for files, as printf writes them by its %b.
use Rattle.std.specs.Prelude.{ℕ, zero, suc, ◌+◌, ◌-◌, ◌*◌, ◌/◌, ◌%◌, ◌==◌, ◌&&◌, not, Bool, if◌then◌else◌, List, [], ◌∷◌, ◌++◌, codes, decimal, nat_lt}
use Rattle.std.specs.List.{flat_map}
use Rattle.lab_marks.specs.declared.plans.PlanFile.{PlanFile}
use Rattle.lab_marks.specs.declared.plans.PlanFile.TheVariants.{Head, Copies, Mark, Session, Checks, Lines}

-- the name of a file
abbrev pub file_name : PlanFile → List ℕ
file_name Head = codes "head"
file_name Copies = codes "copies"
file_name (Mark n) = codes "mark." ++ decimal n
file_name (Session n) = codes "session." ++ decimal n
file_name (Checks n) = codes "checks." ++ decimal n
file_name (Lines n) = decimal n

-- whether a byte is written as it is: one that can be printed, or no ASCII character
abbrev pub is_plain : ℕ → Bool
is_plain byte = not (nat_lt byte 32) && not (byte == 127)

-- a byte, as printf reads it
abbrev pub shown : ℕ → List ℕ
shown byte =
    if byte == 10 then codes "\\n" else
    if byte == 92 then codes "\\\\" else
    if is_plain byte then byte ∷ [] else
    codes "\\0" ++ decimal (byte / 64) ++ decimal (byte / 8 % 8) ++ decimal (byte % 8)

-- a line that adds these bytes to a file
abbrev pub piece : PlanFile → List ℕ → List ℕ
piece file bytes = file_name file ++ codes " " ++ flat_map shown bytes ++ codes "\n"

-- how far printf has read an escape
pub data Escape : Type 0 where
  -- none is begun
  AsIs : Escape
  -- a backslash was read
  Begun : Escape
  -- so many octal digits come, after others with this value, and then the last one
  InDigits : ℕ → ℕ → Escape

-- what printf makes of a text by its %b, where its escapes are `\n`, `\\`, and `\0` with three octal digits
abbrev pub printed : Escape → List ℕ → List ℕ
printed escape [] = []
printed AsIs (c ∷ cs) = if c == 92 then printed Begun cs else c ∷ printed AsIs cs
printed Begun (c ∷ cs) =
    if c == 110 then 10 ∷ printed AsIs cs else
    if c == 92 then 92 ∷ printed AsIs cs else
    printed (InDigits 2 0) cs
printed (InDigits zero value) (c ∷ cs) = (value * 8 + (c - 48)) ∷ printed AsIs cs
printed (InDigits (suc more) value) (c ∷ cs) = printed (InDigits more (value * 8 + (c - 48))) cs
