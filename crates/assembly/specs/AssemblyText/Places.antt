-- Where the bytes of a line are, as offsets in bytes from the hunk's begin.
use Rattle.std.specs.Prelude.{ℕ, ◌+◌, ◌*◌, ◌/◌, ◌==◌, if◌then◌else◌, length}
use Rattle.assembly.specs.declared.assembly_text.statements.Boundary.{Boundary}
use Rattle.assembly.specs.declared.assembly_text.statements.Boundary.TheVariants.{Half, Word}
use Rattle.assembly.specs.declared.assembly_text.statements.Statement.{Statement}
use Rattle.assembly.specs.declared.assembly_text.statements.Statement.TheVariants.{Fixed, Relative, Indirect, Reserve, Address, Align, Global}

-- the next offset on a boundary
abbrev pub rounded_up : Boundary → ℕ → ℕ
rounded_up Half offset = (offset + 1) / 2 * 2
rounded_up Word offset = (offset + 3) / 4 * 4

-- What a label on the line names, where the bytes before the line end at the offset: `RES` and `DA` are aligned first.
abbrev pub place_of : Statement → ℕ → ℕ
place_of (Reserve label) offset = rounded_up Half offset
place_of (Address label) offset = rounded_up Word offset
place_of _ offset = offset

-- where the bytes of the line end
abbrev pub end_of : Statement → ℕ → ℕ
end_of (Fixed bytes) offset = offset + length bytes
end_of (Relative byte label) offset = offset + 2
end_of (Indirect byte label) offset = offset + 2
end_of (Reserve label) offset = rounded_up Half offset + 2
end_of (Address label) offset = rounded_up Word offset + 4
end_of (Align boundary) offset = rounded_up boundary offset
end_of (Global number label) offset = offset

-- how many pairs of the global table the line gives
abbrev pub pairs_of : Statement → ℕ
pairs_of (Global number label) = 1
pairs_of _ = 0

-- code begins after the word that has the hunk's length
abbrev pub first_offset : ℕ
first_offset = 4

-- the words after the code: a 0, and where there are pairs those and the highest number
abbrev pub closing_size : ℕ → ℕ
closing_size pairs = if pairs == 0 then 1 else 2 * pairs + 2

-- the words of the whole hunk, where its bytes end at the offset
abbrev pub hunk_size : ℕ → ℕ → ℕ
hunk_size offset pairs = (offset + 3) / 4 + closing_size pairs

-- the most words of a hunk
abbrev pub most_words : ℕ
most_words = 65536
