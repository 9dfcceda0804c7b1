-- The lines that set constants.
use Rattle.std.specs.Prelude.{ℕ, ◌+◌, ◌-◌, ◌^◌, ◌==◌, ◌&&◌, min, not, Bool, true, if◌then◌else◌, List, [], ◌∷◌, ◌++◌, length, codes, nat_le, Option, Some, None, Result, Ok, Err}
use Rattle.std.specs.Char.{is_digit}
use Rattle.std.specs.List.{list_all}
use Rattle.std.specs.Map.{update}
use Rattle.std.specs.Option.{option_map_or}
use Rattle.std.specs.Str.{bytes_eq}
use Rattle.tool_texts.specs.Reports.{Report}
use Rattle.friendly_assembly.specs.declared.flaws.Flaw.{Flaw}
use Rattle.friendly_assembly.specs.declared.flaws.Wrong.TheVariants.{ConstantName, LabelledSetting, NoValue, SetAgain, SettingForm}
use Rattle.friendly_assembly.specs.declared.names.Constant.{Constant}
use Rattle.friendly_assembly.specs.declared.parts.Part.{Part}
use Rattle.friendly_assembly.specs.declared.settings.Setting.{Setting}
use Rattle.friendly_assembly.specs.declared.values.Digits.{Digits}
use Rattle.friendly_assembly.specs.declared.values.Digits.TheVariants.{Number, Text}
use Rattle.friendly_assembly.specs.declared.values.Value.{Value}
use Rattle.friendly_assembly.specs.FlawWords.{words_of}
use Rattle.friendly_assembly.specs.LineLabels.{is_name, labels_in, said_in}
use Rattle.friendly_assembly.specs.Operands.{Names, operand_of}
use Rattle.friendly_assembly.specs.Parts.{parts_of}
use Rattle.friendly_assembly.specs.Quotes.{flaw}
use Rattle.friendly_assembly.specs.Readings.{code_of}
use Rattle.friendly_assembly.specs.StrangeBytes.{strange_flaw}

-- the name of a constant is one that a label may have
abbrev pub is_constant_name : List ℕ → Bool
is_constant_name name = is_name name && nat_le (length name) 16

-- whether these are decimal digits, at least one and no more than so many
abbrev pub are_decimal_digits : List ℕ → ℕ → Bool
are_decimal_digits digits most =
    not (length digits == 0) && list_all (λ c. is_digit c 10) digits && nat_le (length digits) most

-- whether digits after a sign, or without one, are a number: 11 bytes with the sign at most
abbrev pub are_number : Bool → Digits → Bool
are_number minus (Number n) = true
are_number minus (Text text) = are_decimal_digits text (if minus then 10 else 11)

-- whether a value is a number
abbrev pub is_number : Value → Bool
is_number v = are_number v.minus v.digits

-- while constants are set, no label stands for another
abbrev pub constants_alone : (List ℕ → Option Constant) → Names
constants_alone constants = record { constants = constants; firsts = λ name. None }

-- a constant is set to a number
abbrev pub set_to : List ℕ → Part → Result Value Flaw → Result (Option Setting) Flaw
set_to name part (Ok v) =
    if is_number v then Ok (Some (record { name = name; value = v })) else Err (flaw part.column (NoValue part.text))
set_to name part (Err wrong) = Err wrong

-- a constant that is not set already
abbrev pub set_new : (List ℕ → Option Constant) → Part → Part → Option Constant → Result (Option Setting) Flaw
set_new constants name part (Some before) = Err (flaw name.column (SetAgain name.text before.line))
set_new constants name part None = set_to name.text part (operand_of (constants_alone constants) part)

-- `SET` without a label, a name, and a value
abbrev pub set_named : (List ℕ → Option Constant) → List Part → Part → Part → Result (Option Setting) Flaw
set_named constants (label ∷ others) name part = Err (flaw label.column LabelledSetting)
set_named constants [] name part =
    if not (is_constant_name name.text) then Err (flaw name.column ConstantName) else
    set_new constants name part (constants name.text)

-- `SET` and its operands
abbrev pub set_by : (List ℕ → Option Constant) → List Part → Part → List Part → Result (Option Setting) Flaw
set_by constants labels word (name ∷ part ∷ []) = set_named constants labels name part
set_by constants labels word _ = Err (flaw word.column SettingForm)

-- the constant that a line sets, if it sets one
abbrev pub setting_by : (List ℕ → Option Constant) → List Part → List Part → Result (Option Setting) Flaw
setting_by constants labels [] = Ok None
setting_by constants labels (word ∷ operands) = if bytes_eq word.text (codes "SET") then set_by constants labels word operands else Ok None

-- the same of a line: one with a strange character sets none
abbrev pub setting_of : (List ℕ → Option Constant) → List ℕ → Result (Option Setting) Flaw
setting_of constants code =
    option_map_or (λ wrong. Ok None) (strange_flaw 1 code) (setting_by constants (labels_in (parts_of code)) (said_in (parts_of code)))

-- what is wrong in a line, with its place; a column has its limit
abbrev pub report_at : ℕ → List ℕ → Flaw → Report
report_at n line wrong = record {
  line = n;
  column = min (wrong.column + wrong.after) (2 ^ 64 - 1);
  text = line;
  words = words_of wrong.wrong;
  code = 0;
}

-- what is known of the constants after some lines
pub record Constants : Type 0 where
  -- those that are set
  pub table : List ℕ → Option Constant
  -- what is wrong in these lines
  pub reports : List Report

-- after line n, which sets a constant, or nothing, or is wrong
abbrev pub with_setting : Constants → ℕ → List ℕ → Result (Option Setting) Flaw → Constants
with_setting known n line (Ok None) = known
with_setting known n line (Ok (Some s)) =
    record known { table = update bytes_eq known.table s.name (Some (record { value = s.value; line = n })) }
with_setting known n line (Err wrong) = record known { reports = known.reports ++ report_at n line wrong ∷ [] }

-- after one line more
abbrev pub constants_after : Constants → ℕ → List ℕ → Constants
constants_after known n line = with_setting known n line (setting_of known.table (code_of line))

-- after the lines from line n on
abbrev pub constants_of : Constants → ℕ → List (List ℕ) → Constants
constants_of known n [] = known
constants_of known n (line ∷ lines) = constants_of (constants_after known n line) (n + 1) lines

-- before the first line
abbrev pub no_constants : Constants
no_constants = record { table = λ name. None; reports = [] }
