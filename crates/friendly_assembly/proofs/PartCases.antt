-- Lists of so many parts.
use Rattle.std.proofs.Common.{◌≡◌, ◌<◌, ◌≤◌, List, [], ◌∷◌, length, get_or, ap, arith}
use Rattle.friendly_assembly.specs.declared.parts.Part.{Part}
use Rattle.friendly_assembly.specs.Strings.{operands_flaw, text_flaw}

-- a string with one operand
pub one_operand : (word : Part) (operands : List Part) (part : Part) → 1 ≤ length operands → length operands < 2 → part ≡ get_or operands 0 part
    → text_flaw word part ≡ operands_flaw word operands
one_operand word [] part some few is = absurd (omega arith)
one_operand word (first ∷ []) part some few is = ap (text_flaw word) is
one_operand word (first ∷ second ∷ others) part some few is = absurd (omega arith)
