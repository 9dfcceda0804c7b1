-- The slots are those of the rows.
use Rattle.std.proofs.Common.{◌≡◌, ℕ, ◌<◌, Option, map, refl}
use Rattle.std.specs.List.{range_with_len}
use Rattle.std.specs.Option.{option_map}
use Rattle.instruction_set.specs.declared.instruction_table.rows.Shape.{Shape}
use Rattle.instruction_set.specs.InstructionTable.Shapes.{carried_at, number_at, operation_at, shape_by, shape_of}
use Rattle.instruction_set.specs.InstructionTable.Table.{entry, column0, column1, column2, column3, column4, column5, column6, column7}
use Rattle.instruction_set.proofs.InstructionTable.Entries.{same_at}

abbrev by_slot : ℕ → Option Shape
by_slot byte = shape_by (operation_at byte) (number_at byte) (carried_at byte)

abbrev by_entry : ℕ → Option Shape
by_entry byte = option_map shape_of (entry byte)

all_same : map by_slot (range_with_len 0 256) ≡ map by_entry (range_with_len 0 256)
unfolding entry column0 column1 column2 column3 column4 column5 column6 column7
all_same = refl

pub shape_at : (byte : ℕ) → byte < 256 → by_slot byte ≡ by_entry byte
shape_at = same_at by_slot by_entry all_same
