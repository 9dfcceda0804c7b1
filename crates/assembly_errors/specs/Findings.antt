-- The lines in error.
use Rattle.std.specs.Prelude.{ℕ, Bool, true, if◌then◌else◌, List, ◌++◌, Option, Some, None, Result, Ok, Err}
use Rattle.std.specs.List.{filter_map}
use Rattle.std.specs.Option.{option_map}
use Rattle.module_text.specs.TextReader.Lines.{lines_of}
use Rattle.assembly.specs.AssemblyText.Labels.{Table}
use Rattle.assembly.specs.AssemblyText.Pieces.{piece_of}
use Rattle.assembly.specs.declared.assembly_text.errors.LineError.{LineError}
use Rattle.assembly.specs.declared.assembly_text.errors.LineError.TheVariants.{UndefinedLabel}
use Rattle.assembly.specs.declared.assembly_text.pieces.Piece.{Piece}
use Rattle.assembly_errors.specs.Drafts.{Draft, drafted, is_none, no_draft}
use Rattle.assembly_errors.specs.Leads.{NamingLine}
use Rattle.assembly_errors.specs.declared.drafts.Finding.{Finding}

-- whether a label is within reach is known only where no line was wrong before
abbrev pub is_blamed : LineError → Bool → Bool
is_blamed UndefinedLabel is_right = true
is_blamed e is_right = is_right

-- what is wrong with a line, by what it gives
abbrev pub blamed : Bool → Result Piece LineError → Option LineError
blamed is_right (Ok piece) = None
blamed is_right (Err e) = if is_blamed e is_right then Some e else None

-- what is wrong with a line that names a label
abbrev pub lead_error : Table → Bool → NamingLine → Option LineError
lead_error table is_right lead = blamed is_right (piece_of table lead.offset lead.statement)

-- a line that names a label, where it is in error
abbrev pub finding_of : Table → Bool → NamingLine → Option Finding
finding_of table is_right lead =
    option_map (λ e. record { number = lead.number; text = lead.text; offset = lead.offset; error = e }) (lead_error table is_right lead)

-- after the lines that are wrong in themselves come those that name a label and are wrong by it
abbrev pub with_findings : Draft → Draft
with_findings d = record {
  layout = d.layout;
  found = d.found ++ filter_map (finding_of d.layout.table (is_none d.found)) d.leads;
  leads = d.leads;
  definitions = d.definitions;
}

-- all lines of a text, of which all that are in error are found
unfoldable pub whole_draft : List ℕ → Draft
whole_draft text = with_findings (drafted 1 no_draft (lines_of text))

-- the lines in error
abbrev pub findings_of : List ℕ → List Finding
findings_of text = (whole_draft text).found
