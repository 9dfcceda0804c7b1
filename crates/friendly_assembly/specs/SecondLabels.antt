-- The lines that define labels, and which labels stand for others.
use Rattle.std.specs.Prelude.{ℕ, ◌+◌, List, [], ◌∷◌, ◌++◌, Option, Some, None}
use Rattle.std.specs.Map.{update}
use Rattle.std.specs.Option.{option_map_or}
use Rattle.std.specs.Str.{bytes_eq}
use Rattle.tool_texts.specs.Reports.{Report}
use Rattle.friendly_assembly.specs.declared.flaws.Wrong.TheVariants.{DefinedAgain, LabelIsConstant}
use Rattle.friendly_assembly.specs.declared.names.Constant.{Constant}
use Rattle.friendly_assembly.specs.declared.parts.Part.{Part}
use Rattle.friendly_assembly.specs.LineLabels.{labels_in, name_of}
use Rattle.friendly_assembly.specs.Parts.{parts_of}
use Rattle.friendly_assembly.specs.Quotes.{flaw}
use Rattle.friendly_assembly.specs.Readings.{code_of}
use Rattle.friendly_assembly.specs.Settings.{report_at}

-- what is known of the labels after some lines
pub record Labels : Type 0 where
  -- the line on which each is defined first
  pub lines : List ℕ → Option ℕ
  -- the first label of the line of each other label
  pub firsts : List ℕ → Option (List ℕ)
  -- what is wrong
  pub reports : List Report

-- a label that is a constant too
abbrev pub constant_reports : (List ℕ → Option Constant) → ℕ → List ℕ → Part → List Report
constant_reports constants n line label =
    option_map_or (λ (c : Constant). report_at n line (flaw label.column (LabelIsConstant (name_of label.text) c.line)) ∷ []) (constants (name_of label.text)) []

-- what is wrong with a label that is a constant too
abbrev pub with_constant : (List ℕ → Option Constant) → Labels → ℕ → List ℕ → Part → Labels
with_constant constants known n line label =
    record known { reports = known.reports ++ constant_reports constants n line label }

-- a label of line n, where it is on no line before
abbrev pub with_line : Labels → ℕ → List ℕ → Labels
with_line known n name = record known { lines = update bytes_eq known.lines name (Some n) }

-- a label for which the first one of its line stands
abbrev pub with_first_label : Labels → List ℕ → List ℕ → Labels
with_first_label known name first = record known { firsts = update bytes_eq known.firsts name (Some first) }

-- the first label of line n, which may be on a line before
abbrev pub with_first_by : Labels → ℕ → Part → Option ℕ → Labels
with_first_by known n label (Some before) = known
with_first_by known n label None = with_line known n (name_of label.text)

-- the first label of line n
abbrev pub with_first : (List ℕ → Option Constant) → Labels → ℕ → List ℕ → Part → Labels
with_first constants known n line label =
    with_first_by (with_constant constants known n line label) n label (known.lines (name_of label.text))

-- another label of line n, for which the first one stands, unless it is on a line before
abbrev pub with_other_by : Labels → ℕ → List ℕ → List ℕ → Part → Option ℕ → Labels
with_other_by known n line first label (Some before) =
    record known { reports = known.reports ++ report_at n line (flaw label.column (DefinedAgain (name_of label.text) before)) ∷ [] }
with_other_by known n line first label None =
    with_first_label (with_line known n (name_of label.text)) (name_of label.text) first

-- another label of line n
abbrev pub with_other : (List ℕ → Option Constant) → Labels → ℕ → List ℕ → List ℕ → Part → Labels
with_other constants known n line first label =
    with_other_by (with_constant constants known n line label) n line first label (known.lines (name_of label.text))

-- the labels after the first one
abbrev pub with_others : (List ℕ → Option Constant) → Labels → ℕ → List ℕ → List ℕ → List Part → Labels
with_others constants known n line first [] = known
with_others constants known n line first (label ∷ others) =
    with_others constants (with_other constants known n line first label) n line first others

-- all labels of line n
abbrev pub with_labels : (List ℕ → Option Constant) → Labels → ℕ → List ℕ → List Part → Labels
with_labels constants known n line [] = known
with_labels constants known n line (label ∷ others) =
    with_others constants (with_first constants known n line label) n line (name_of label.text) others

-- after the lines from line n on
abbrev pub labels_of : (List ℕ → Option Constant) → Labels → ℕ → List (List ℕ) → Labels
labels_of constants known n [] = known
labels_of constants known n (line ∷ lines) =
    labels_of constants (with_labels constants known n line (labels_in (parts_of (code_of line)))) (n + 1) lines

-- before the first line
abbrev pub no_labels : Labels
no_labels = record { lines = λ name. None; firsts = λ name. None; reports = [] }
