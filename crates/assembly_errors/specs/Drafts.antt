-- The lines of a text, of which some may be in error.
use Rattle.std.specs.Prelude.{ℕ, ◌+◌, ◌==◌, Bool, true, false, if◌then◌else◌, List, [], ◌∷◌, ◌++◌, take, Option, Some, None, is_some, Result, Ok, Err, option_and_then}
use Rattle.std.specs.List.{position}
use Rattle.std.specs.Map.{update}
use Rattle.std.specs.Option.{option_map_or}
use Rattle.std.specs.Str.{bytes_eq}
use Rattle.assembly.specs.AssemblyText.KeptLabels.{layout_of}
use Rattle.assembly.specs.AssemblyText.LineText.{line_of}
use Rattle.assembly.specs.AssemblyText.Names.{label_of}
use Rattle.assembly.specs.AssemblyText.Parts.{parts_of}
use Rattle.assembly.specs.AssemblyText.Survey.{Layout, admitted, no_lines, with_line as with_line_placed}
use Rattle.assembly.specs.declared.assembly_text.errors.LineError.{LineError}
use Rattle.assembly.specs.declared.assembly_text.errors.LineError.TheVariants.{HunkTooLong}
use Rattle.assembly.specs.declared.assembly_text.statements.Line.{Line}
use Rattle.assembly.specs.declared.assembly_text.statements.Statement.{Statement}
use Rattle.assembly_errors.specs.Leads.{NamingLine, names_label}
use Rattle.assembly_errors.specs.declared.drafts.Definition.{Definition}
use Rattle.assembly_errors.specs.declared.drafts.Draft.{Draft as KeptDraft}
use Rattle.assembly_errors.specs.declared.drafts.Finding.{Finding}

-- what is known after some lines
pub record Draft : Type 0 where
  -- where the lines that are right have their bytes, and what labels name
  pub layout : Layout
  -- the lines that are wrong in themselves, or after those before them
  pub found : List Finding
  -- the lines that name a label and may still be wrong
  pub leads : List NamingLine
  -- the labels, each where it is defined first
  pub definitions : List Definition

-- the draft that the code keeps
abbrev pub draft_of : KeptDraft → Draft
draft_of d = record { layout = layout_of d.known; found = d.found.items; leads = d.leads.items; definitions = d.definitions.items }

-- before the first line
abbrev pub no_draft : Draft
no_draft = record { layout = no_lines; found = []; leads = []; definitions = [] }

-- the label before the first colon of a part
abbrev pub label_before_colon : List ℕ → Option (List ℕ)
label_before_colon part = option_and_then (λ end. label_of (take end part)) (position (λ c. c == 58) part)

-- the label with which the parts of a line begin, whatever else they are
abbrev pub loose_label : List (List ℕ) → Option (List ℕ)
loose_label [] = None
loose_label (part ∷ parts) = label_before_colon part

-- the draft with a label of line n, which has its place where the bytes so far end
abbrev pub with_label : ℕ → Draft → List ℕ → Draft
with_label n d name =
    if is_some (d.layout.table name) then d else
    record {
      layout = record {
        offset = d.layout.offset;
        pairs = d.layout.pairs;
        table = update bytes_eq d.layout.table name (Some (record { offset = d.layout.offset; is_reserve = false }));
      };
      found = d.found;
      leads = d.leads;
      definitions = d.definitions ++ record { name = name; number = n } ∷ [];
    }

-- the draft with the label of line n, which is wrong
abbrev pub with_loose_label : ℕ → Draft → List ℕ → Draft
with_loose_label n d text = option_map_or (with_label n d) (loose_label (parts_of text)) d

-- the length of the hunk is known only where no line was wrong before
abbrev pub is_said : LineError → Bool → Bool
is_said HunkTooLong is_first = is_first
is_said e is_first = true

-- whether no line was found
abbrev pub is_none : List Finding → Bool
is_none [] = true
is_none (f ∷ fs) = false

-- the lines that were found, and line n
abbrev pub found_with : ℕ → Draft → List ℕ → LineError → List Finding
found_with n d text e =
    if is_said e (is_none d.found) then d.found ++ record { number = n; text = text; offset = d.layout.offset; error = e } ∷ [] else
    d.found

-- line n is wrong, and gives no bytes; its label is defined all the same
abbrev pub with_error : ℕ → Draft → List ℕ → LineError → Draft
with_error n d text e =
    with_loose_label n (record { layout = d.layout; found = found_with n d text e; leads = d.leads; definitions = d.definitions }) text

-- the definitions, and the label of line n
abbrev pub definitions_with : ℕ → List Definition → Option (List ℕ) → List Definition
definitions_with n definitions None = definitions
definitions_with n definitions (Some name) = definitions ++ record { name = name; number = n } ∷ []

-- the lines that name a label, and line n if it does
abbrev pub leads_with : ℕ → List NamingLine → List ℕ → ℕ → Statement → List NamingLine
leads_with n leads text offset statement =
    if names_label statement then leads ++ record { number = n; text = text; offset = offset; statement = statement } ∷ [] else
    leads

-- line n is right so far
abbrev pub with_line : ℕ → Draft → List ℕ → Line → Draft
with_line n d text line = record {
  layout = with_line_placed d.layout line;
  found = d.found;
  leads = leads_with n d.leads text d.layout.offset line.statement;
  definitions = definitions_with n d.definitions line.label;
}

-- line n says this
abbrev pub with_admitted : ℕ → Draft → List ℕ → Line → Result Unit LineError → Draft
with_admitted n d text line (Ok u) = with_line n d text line
with_admitted n d text line (Err e) = with_error n d text e

-- line n says this, and may come next or not
abbrev pub with_read : ℕ → Draft → List ℕ → Line → Draft
with_read n d text line = with_admitted n d text line (admitted d.layout line)

-- line n was read, or not
abbrev pub with_reading : ℕ → Draft → List ℕ → Result Line LineError → Draft
with_reading n d text (Ok line) = with_read n d text line
with_reading n d text (Err e) = with_error n d text e

-- line n comes next
abbrev pub drafted_line : ℕ → Draft → List ℕ → Draft
drafted_line n d text = with_reading n d text (line_of text)

-- the lines from line n on, after those that gave this draft
abbrev pub drafted : ℕ → Draft → List (List ℕ) → Draft
drafted n d [] = d
drafted n d (text ∷ texts) = drafted (n + 1) (drafted_line n d text) texts
