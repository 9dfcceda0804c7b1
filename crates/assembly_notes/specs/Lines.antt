-- What is strange of the lines of a text, one after the other.
use Rattle.std.specs.Prelude.{ℕ, ◌+◌, List, [], ◌∷◌, ◌++◌, codes, decimal, Option, Some, None}
use Rattle.byte_streams.specs.Pieces.{joined}
use Rattle.assembly.specs.AssemblyText.Labels.{Table}
use Rattle.assembly.specs.AssemblyText.Parts.{without_comment}
use Rattle.assembly_errors.specs.NameWords.{named_line}
use Rattle.assembly_errors.specs.declared.name_words.NamedLine.{NamedLine}
use Rattle.assembly_errors.specs.declared.parts.Part.{Part}
use Rattle.tool_texts.specs.Reports.{Report}
use Rattle.assembly_notes.specs.Flows.{flow_of}
use Rattle.assembly_notes.specs.NamedTexts.{note}
use Rattle.assembly_notes.specs.WordLabels.{word_notes}
use Rattle.assembly_notes.specs.declared.flows.Flow.{Flow}
use Rattle.assembly_notes.specs.declared.flows.Flow.TheVariants.{Nothing, Data, GoesOn, Ends}
use Rattle.assembly_notes.specs.declared.named_texts.NamedText.{NamedText}

-- an instruction goes on into line n, where data is
abbrev pub flow_notes : Flow → ℕ → Option NamedText → List Report
flow_notes Data n (Some before) =
    note before before.column (joined (codes "after this instruction the run goes on in line " ∷ decimal n ∷ codes ", where data is" ∷ [])) ∷ []
flow_notes flow n going = []

-- an instruction goes on past the end
abbrev pub end_notes : Option NamedText → List Report
end_notes (Some before) = note before before.column (codes "after this instruction the run goes on past the end of the program") ∷ []
end_notes None = []

-- the instruction that goes on after a line, if there is one
abbrev pub going_after : Flow → NamedText → Option NamedText → Option NamedText
going_after Nothing line going = going
going_after Data line going = None
going_after GoesOn line going = Some line
going_after Ends line going = None

-- what is strange of a line with a name and this after it
abbrev pub named_notes : Table → NamedText → Option Part → Option NamedText → List Report
named_notes table line operand going = flow_notes (flow_of line.name) line.number going ++ word_notes table line operand

-- line n with this name
abbrev pub named_text : ℕ → List ℕ → Part → NamedText
named_text n text name = record { number = n; text = text; name = name.text; column = name.column }

-- what is strange of line n, by the name that it has
abbrev pub line_notes_by : Table → ℕ → Option NamedText → List ℕ → NamedLine → Option Part → List Report
line_notes_by table n going text line (Some name) = named_notes table (named_text n text name) line.operands.first going
line_notes_by table n going text line None = []

-- what is strange of line n, after an instruction that goes on, if there is one
abbrev pub line_notes : Table → ℕ → Option NamedText → List ℕ → List Report
line_notes table n going text =
    line_notes_by table n going text (named_line (without_comment text)) (named_line (without_comment text)).name

-- the instruction that goes on after line n, by the name that it has
abbrev pub going_after_by : ℕ → Option NamedText → List ℕ → Option Part → Option NamedText
going_after_by n going text (Some name) = going_after (flow_of name.text) (named_text n text name) going
going_after_by n going text None = going

-- the instruction that goes on after line n, if there is one
abbrev pub going_after_line : ℕ → Option NamedText → List ℕ → Option NamedText
going_after_line n going text = going_after_by n going text (named_line (without_comment text)).name

-- what is strange of the lines from line n on, and at the end
abbrev pub notes_from : Table → ℕ → Option NamedText → List (List ℕ) → List Report
notes_from table n going [] = end_notes going
notes_from table n going (text ∷ texts) =
    line_notes table n going text ++ notes_from table (n + 1) (going_after_line n going text) texts
