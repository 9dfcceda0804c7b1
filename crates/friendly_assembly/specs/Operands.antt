-- What an operand becomes.
use Rattle.std.specs.Prelude.{ℕ, ◌==◌, ◌&&◌, ◌||◌, not, Bool, false, if◌then◌else◌, List, [], ◌∷◌, ◌++◌, length, drop, codes, decimal, nat_eq, nat_lt, Option, Some, None, Result, Ok, Err}
use Rattle.std.specs.Char.{is_digit}
use Rattle.std.specs.List.{list_all, starts_with}
use Rattle.std.specs.Option.{ok_or, option_map_or, unwrap_or}
use Rattle.module_text.specs.Words.{word_of}
use Rattle.friendly_assembly.specs.declared.flaws.Flaw.{Flaw}
use Rattle.friendly_assembly.specs.declared.flaws.Wrong.{Wrong}
use Rattle.friendly_assembly.specs.declared.flaws.Wrong.TheVariants.{CharacterCount, LongHex, NoHex, StringElsewhere}
use Rattle.friendly_assembly.specs.declared.names.Constant.{Constant}
use Rattle.friendly_assembly.specs.declared.parts.Part.{Part}
use Rattle.friendly_assembly.specs.declared.values.Digits.{Digits}
use Rattle.friendly_assembly.specs.declared.values.Digits.TheVariants.{Number, Text}
use Rattle.friendly_assembly.specs.declared.values.Value.{Value}
use Rattle.friendly_assembly.specs.Quotes.{codes_in, flaw, quote_flaw, quoted}

-- the names that lines define: constants, with their values, and labels for which another one stands, the first of their line
pub record Names : Type 0 where
  -- the constants
  pub constants : List ℕ → Option Constant
  -- the first label of the line of each other label
  pub firsts : List ℕ → Option (List ℕ)

-- a value with its sign
abbrev pub value : Bool → Digits → Value
value minus digits = record { minus = minus; digits = digits }

-- the digits, or the name in their place
abbrev pub digits_text : Digits → List ℕ
digits_text (Number n) = decimal n
digits_text (Text text) = text

-- a value, as the plain text has it
abbrev pub value_text : Value → List ℕ
value_text v = (if v.minus then codes "-" else []) ++ digits_text v.digits

-- whether a part begins with a minus sign
abbrev pub is_minus : List ℕ → Bool
is_minus part = starts_with nat_eq part (codes "-")

-- what comes after the sign
abbrev pub without_sign : List ℕ → List ℕ
without_sign part = if is_minus part then drop 1 part else part

-- a value after one more sign
abbrev pub signed : Bool → Value → Value
signed minus v = value (if minus then not v.minus else v.minus) v.digits

-- what comes after `0x`
abbrev pub after_mark : List ℕ → Option (List ℕ)
after_mark [] = None
after_mark (c ∷ []) = None
after_mark (c ∷ d ∷ cs) = if (c == 48) && ((d == 120) || (d == 88)) then Some cs else None

-- whether these are hex digits
abbrev pub are_hex_digits : List ℕ → Bool
are_hex_digits digits = list_all (λ c. is_digit c 16) digits

-- the number that 1 to 8 hex digits are
abbrev pub hex_number : List ℕ → Result ℕ Wrong
hex_number digits =
    if nat_lt 8 (length digits) && are_hex_digits digits then Err (LongHex (length digits)) else
    ok_or (word_of digits) (NoHex digits)

-- such a number with its sign, at a column
abbrev pub hex_at : ℕ → Bool → Result ℕ Wrong → Result Value Flaw
hex_at column minus (Ok n) = Ok (value minus (Number n))
hex_at column minus (Err wrong) = Err (flaw column wrong)

-- a word that is no hex number: the value of a constant, the first label of a line for another, or the word itself
abbrev pub named_value : Names → Bool → List ℕ → Value
named_value names minus word =
    option_map_or (λ c. signed minus c.value) (names.constants word) (value minus (Text (unwrap_or (names.firsts word) word)))

-- a number or a name after its sign
abbrev pub word_value : Names → ℕ → Bool → List ℕ → Result Value Flaw
word_value names column minus word =
    option_map_or (λ digits. hex_at column minus (hex_number digits)) (after_mark word) (Ok (named_value names minus word))

-- the one character in quotes
abbrev pub single_at : ℕ → List ℕ → Result Value Flaw
single_at column [] = Err (flaw column (CharacterCount 0))
single_at column (c ∷ []) = Ok (value false (Number c))
single_at column (c ∷ d ∷ cs) = Err (flaw column (CharacterCount (length (c ∷ d ∷ cs))))

-- the character that a part is, where nothing is wrong in its quotes
abbrev pub character_by : Part → Option Flaw → Result Value Flaw
character_by part (Some wrong) = Err wrong
character_by part None = single_at part.column (codes_in (quoted part.text))

-- what a part that is an operand becomes
unfoldable pub operand_of : Names → Part → Result Value Flaw
operand_of names part =
    if starts_with nat_eq part.text (39 ∷ []) then character_by part (quote_flaw 39 part.column 1 (drop 1 part.text)) else
    if starts_with nat_eq part.text (34 ∷ []) then Err (flaw part.column StringElsewhere) else
    word_value names part.column (is_minus part.text) (without_sign part.text)

-- the text that it becomes: where something is wrong, it stays
abbrev pub text_by : List ℕ → Result Value Flaw → List ℕ
text_by part (Ok v) = value_text v
text_by part (Err wrong) = part

-- the plain text of an operand
abbrev pub operand_text : Names → Part → List ℕ
operand_text names part = text_by part.text (operand_of names part)
