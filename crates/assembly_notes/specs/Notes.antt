-- What is strange in an assembly text that the assembler takes.
use Rattle.std.specs.Prelude.{ℕ, false, if◌then◌else◌, List, [], None}
use Rattle.module_text.specs.TextReader.Lines.{lines_of}
use Rattle.assembly_errors.specs.Drafts.{Draft, is_none}
use Rattle.assembly_errors.specs.Findings.{whole_draft}
use Rattle.tool_texts.specs.Reports.{Report, reports_text}
use Rattle.tool_texts.specs.Told.{Told}
use Rattle.assembly_notes.specs.Lines.{notes_from}

-- what is strange of the lines of a text; nothing is said of one in which something is wrong
abbrev pub notes_of : Draft → List ℕ → List Report
notes_of draft text = if is_none draft.found then notes_from draft.layout.table 1 None (lines_of text) else []

-- What is strange in a text, in words; the name is that of the file, or empty.
unfoldable pub assembly_notes : List ℕ → List ℕ → Told
assembly_notes name text = record { is_wrong = false; bytes = reports_text name (notes_of (whole_draft text) text) }
