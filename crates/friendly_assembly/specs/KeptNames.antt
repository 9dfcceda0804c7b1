-- What the maps say that the code keeps.
use Rattle.std.specs.Prelude.{ℕ, List, map, Option}
use Rattle.std.specs.BTreeMap.{BTreeMap, get_by}
use Rattle.std.specs.Cmp.Lexicographic.{slice_cmp}
use Rattle.std.specs.Option.{option_copied}
use Rattle.std.specs.Ordering.{nat_cmp}
use Rattle.tool_texts.specs.Reports.{report_of}
use Rattle.friendly_assembly.specs.declared.names.Constant.{Constant}
use Rattle.friendly_assembly.specs.declared.second_labels.KeptLabels.{KeptLabels}
use Rattle.friendly_assembly.specs.declared.settings.KeptConstants.{KeptConstants}
use Rattle.friendly_assembly.specs.Operands.{Names}
use Rattle.friendly_assembly.specs.SecondLabels.{Labels}
use Rattle.friendly_assembly.specs.Settings.{Constants}
use denote.Ref.{Bor}

-- what a map has for a name
abbrev pub kept : {V : Type 0} → BTreeMap (Bor (List ℕ)) V → List ℕ → Option V
kept m name = get_by (λ key. slice_cmp nat_cmp name key.now) m

-- what a map has for a name, where it is a label
abbrev pub labels_in_map : BTreeMap (Bor (List ℕ)) (Bor (List ℕ)) → List ℕ → Option (List ℕ)
labels_in_map m name = option_copied (kept m name)

-- the names of two maps: constants, and the first labels that others stand for
abbrev pub names_by : BTreeMap (Bor (List ℕ)) Constant → BTreeMap (Bor (List ℕ)) (Bor (List ℕ)) → Names
names_by constants firsts = record { constants = kept constants; firsts = labels_in_map firsts }

-- what the code keeps of constants
abbrev pub constants_kept : KeptConstants → Constants
constants_kept known = record { table = kept known.table; reports = map report_of known.reports.items }

-- what the code keeps of labels
abbrev pub labels_kept : KeptLabels → Labels
labels_kept known = record {
  lines = kept known.lines;
  firsts = labels_in_map known.firsts;
  reports = map report_of known.reports.items;
}
