-- What a map of labels, as the code keeps it, says.
use Rattle.std.specs.Prelude.{ℕ, List}
use Rattle.std.specs.BTreeMap.{BTreeMap, get_by}
use Rattle.std.specs.Cmp.Lexicographic.{slice_cmp}
use Rattle.std.specs.Ordering.{nat_cmp}
use Rattle.assembly.specs.AssemblyText.Labels.{Table}
use Rattle.assembly.specs.AssemblyText.Survey.{Layout}
use Rattle.assembly.specs.declared.assembly_text.places.Place.{Place}
use Rattle.assembly.specs.declared.assembly_text.survey.Surveyed.{Surveyed}
use denote.Ref.{Bor}

-- the table that the map keeps
abbrev pub table_of : BTreeMap (Bor (List ℕ)) Place → Table
table_of map name = get_by (λ key. slice_cmp nat_cmp name key.now) map

-- the layout that the code keeps
abbrev pub layout_of : Surveyed → Layout
layout_of s = record { offset = s.offset; pairs = s.pairs; table = table_of s.labels }
