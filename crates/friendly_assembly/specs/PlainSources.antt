-- Texts that have none of the forms.
use Rattle.std.specs.Prelude.{ℕ, ◌≡◌, ◌≤◌, ◌==◌, false, List, [], ◌∷◌, length, drop, nat_eq, None}
use Rattle.std.specs.List.{AllByRecursion, list_any, starts_with}
use Rattle.friendly_assembly.specs.declared.parts.Part.{Part}
use Rattle.friendly_assembly.specs.LineLabels.{labels_in, said_in}
use Rattle.friendly_assembly.specs.Operands.{after_mark, without_sign}
use Rattle.friendly_assembly.specs.Parts.{parts_of}
use Rattle.friendly_assembly.specs.PlainLine.{is_told}
use Rattle.friendly_assembly.specs.Readings.{code_of}
use Rattle.friendly_assembly.specs.StrangeBytes.{strange_flaw}

-- an operand that is no character, no text in quotes and no hex number
pub record IsPlainOperand (part : Part) : Type 0 where
  -- it does not begin with a single quote
  pub single : starts_with nat_eq part.text (39 ∷ []) ≡ false
  -- nor with a double one
  pub double : starts_with nat_eq part.text (34 ∷ []) ≡ false
  -- nor with `0x`
  pub mark : after_mark (without_sign part.text) ≡ None

-- what a line has before its comment is of none of the forms
pub record HasNoForm (line : List ℕ) : Type 0 where
  -- it has no typographic quote and no no-break space
  pub usual : strange_flaw 1 (code_of line) ≡ None
  -- it has no tab
  pub tabs : list_any (λ c. c == 9) (code_of line) ≡ false
  -- it has one label at most
  pub one_label : length (labels_in (parts_of (code_of line))) ≤ 1
  -- it sets no constant, and is no string
  pub word : is_told (said_in (parts_of (code_of line))) ≡ false
  -- its operands are plain
  pub operands : AllByRecursion IsPlainOperand (drop 1 (said_in (parts_of (code_of line))))
