-- What is wrong in the forms of a line.
use Rattle.std.specs.Prelude.{ℕ, ◌+◌, ◌∷◌, ◌++◌, [], List, map, codes, if◌then◌else◌, Option, Result, Ok, Err}
use Rattle.std.specs.Option.{option_map_or}
use Rattle.std.specs.Str.{bytes_eq}
use Rattle.tool_texts.specs.Reports.{Report}
use Rattle.friendly_assembly.specs.declared.flaws.Flaw.{Flaw}
use Rattle.friendly_assembly.specs.declared.parts.Part.{Part}
use Rattle.friendly_assembly.specs.declared.values.Value.{Value}
use Rattle.friendly_assembly.specs.LineLabels.{labels_in, said_in}
use Rattle.friendly_assembly.specs.Operands.{Names, operand_of}
use Rattle.friendly_assembly.specs.Parts.{parts_of}
use Rattle.friendly_assembly.specs.Readings.{code_of}
use Rattle.friendly_assembly.specs.Settings.{report_at}
use Rattle.friendly_assembly.specs.StrangeBytes.{strange_flaw}
use Rattle.friendly_assembly.specs.Strings.{string_flaw}

-- what is wrong, if something is
abbrev pub flaw_in : Result Value Flaw → List Flaw
flaw_in (Ok v) = []
flaw_in (Err wrong) = wrong ∷ []

-- what is wrong in operands
abbrev pub operand_flaws : Names → List Part → List Flaw
operand_flaws names [] = []
operand_flaws names (part ∷ others) = flaw_in (operand_of names part) ++ operand_flaws names others

-- one thing that is wrong, or nothing
abbrev pub one_flaw : Option Flaw → List Flaw
one_flaw wrong = option_map_or (λ w. w ∷ []) wrong []

-- what is wrong after the labels; what is wrong in `SET` is said where constants are set
abbrev pub said_flaws : Names → List Part → List Part → List Flaw
said_flaws names labels [] = []
said_flaws names labels (word ∷ operands) =
    if bytes_eq word.text (codes "SET") then [] else
    if bytes_eq word.text (codes "DS") then one_flaw (string_flaw labels word operands) else
    operand_flaws names operands

-- what is wrong in the forms of a line: a strange character alone, or what its operands have
abbrev pub line_flaws : Names → List ℕ → List Flaw
line_flaws names code =
    option_map_or (λ wrong. wrong ∷ []) (strange_flaw 1 code) (said_flaws names (labels_in (parts_of code)) (said_in (parts_of code)))

-- the same in the lines from line n on
abbrev pub form_reports : Names → ℕ → List (List ℕ) → List Report
form_reports names n [] = []
form_reports names n (line ∷ lines) = map (report_at n line) (line_flaws names (code_of line)) ++ form_reports names (n + 1) lines
