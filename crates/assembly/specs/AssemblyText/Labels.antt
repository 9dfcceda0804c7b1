-- What labels name.
use Rattle.std.specs.Prelude.{ℕ, Bool, true, false, List, Option, Some, None, is_some}
use Rattle.std.specs.Map.{update}
use Rattle.std.specs.Option.{option_map_or}
use Rattle.std.specs.Str.{bytes_eq}
use Rattle.assembly.specs.AssemblyText.Places.{place_of}
use Rattle.assembly.specs.declared.assembly_text.places.Place.{Place}
use Rattle.assembly.specs.declared.assembly_text.statements.Line.{Line}
use Rattle.assembly.specs.declared.assembly_text.statements.Statement.{Statement}
use Rattle.assembly.specs.declared.assembly_text.statements.Statement.TheVariants.{Reserve}

-- a table gives each label that it has its place
abbrev pub Table : Type 0
Table = List ℕ → Option Place

-- a table without labels
abbrev pub no_labels : Table
no_labels name = None

-- a line that reserves a halfword, which an indirect instruction may name
abbrev pub is_reserve : Statement → Bool
is_reserve (Reserve label) = true
is_reserve _ = false

-- what a label on the line names, where the bytes before the line end at the offset
abbrev pub named_place : ℕ → Statement → Place
named_place offset statement = record { offset = place_of statement offset; is_reserve = is_reserve statement }

-- whether the line defines a label that the table has
abbrev pub repeats : Table → Line → Bool
repeats table line = option_map_or (λ name. is_some (table name)) line.label false

-- the table with the label of one more line
abbrev pub with_label : Table → ℕ → Line → Table
with_label table offset line = option_map_or (λ name. update bytes_eq table name (Some (named_place offset line.statement))) line.label table
