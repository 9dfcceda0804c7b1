-- A row is its name, its form and its effect.
use Rattle.std.proofs.Common.{◌≡◌, ℕ, List, Option, Some, None, refl}
use Rattle.std.specs.Option.{option_map}
use Rattle.instruction_set.specs.declared.instruction_table.rows.Shape.{Shape}
use Rattle.instruction_set.specs.InstructionTable.Names.{name_at}
use Rattle.instruction_set.specs.InstructionTable.Shapes.{shape_of}
use Rattle.instruction_set.specs.InstructionTable.Table.{Entry, entry}

parts : (o : Option Entry) (name : List ℕ) (s : Shape) → option_map (λ e. e.name) o ≡ Some name → option_map shape_of o ≡ Some s → o ≡ Some (record { name = name; form = s.form; effect = s.effect })
parts None name s n h = cc
parts (Some e) name s n h =
    let same_name : e.name ≡ name = cc in
    let same_shape : shape_of e ≡ s = cc in
    rw (← same_name, ← same_shape) refl

pub row_of_parts : (byte : ℕ) (name : List ℕ) (s : Shape) → name_at byte ≡ Some name → option_map shape_of (entry byte) ≡ Some s → entry byte ≡ Some (record { name = name; form = s.form; effect = s.effect })
row_of_parts byte = parts (entry byte)

none : (o : Option Entry) → option_map (λ e. e.name) o ≡ None → o ≡ None
none None h = refl
none (Some e) h = cc

pub no_row : (byte : ℕ) → name_at byte ≡ None → entry byte ≡ None
no_row byte = none (entry byte)
