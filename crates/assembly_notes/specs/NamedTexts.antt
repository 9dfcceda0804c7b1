-- Lines with a name, and what is said of them.
use Rattle.std.specs.Prelude.{ℕ, List}
use Rattle.tool_texts.specs.Reports.{Report}
use Rattle.assembly_notes.specs.declared.named_texts.NamedText.{NamedText}

-- what is said of a column of a line
abbrev pub note : NamedText → ℕ → List ℕ → Report
note line column words = record { line = line.number; column = column; text = line.text; words = words; code = 0 }
