-- The names of the rows.
use Rattle.std.specs.Prelude.{ℕ, Bool, false, List, Option}
use Rattle.std.specs.List.{find, range_with_len}
use Rattle.std.specs.Option.{option_map, option_map_or}
use Rattle.std.specs.Str.{bytes_eq}
use Rattle.instruction_set.specs.InstructionTable.Table.{entry}

-- the name of the row of a function byte
abbrev pub name_at : ℕ → Option (List ℕ)
name_at byte = option_map (λ e. e.name) (entry byte)

-- whether the row of a function byte has the name
abbrev pub has_name : List ℕ → ℕ → Bool
has_name name byte = option_map_or (λ e. bytes_eq e.name name) (entry byte) false

-- the first byte whose row has the name
unfoldable pub byte_named : List ℕ → Option ℕ
byte_named name = find (has_name name) (range_with_len 0 256)
