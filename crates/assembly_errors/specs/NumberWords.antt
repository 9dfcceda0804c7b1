-- What is said of parts that are no number, or no label.
use Rattle.std.specs.Prelude.{ℕ, ◌==◌, ◌&&◌, ◌||◌, Bool, false, not, if◌then◌else◌, List, [], ◌∷◌, length, drop, codes, decimal, is_some, nat_eq, nat_lt, Option, Some, None}
use Rattle.std.specs.Char.{is_ascii_alphabetic, is_ascii_alphanumeric, is_ascii_digit, is_ascii_hexdigit}
use Rattle.std.specs.List.{list_all, starts_with}
use Rattle.byte_streams.specs.Pieces.{joined}
use Rattle.module_text.specs.TextReader.Numbers.{number_in}
use Rattle.assembly.specs.AssemblyText.Numbers.{number_of}

-- a part is a number
unfoldable pub is_number_part : List ℕ → Bool
is_number_part part = is_some (number_of part)

-- a part without its minus
abbrev pub unsigned_part : List ℕ → List ℕ
unsigned_part [] = []
unsigned_part (c ∷ cs) = if c == 45 then cs else c ∷ cs

-- digits, and at least one
abbrev pub are_digits : List ℕ → Bool
are_digits digits = not (length digits == 0) && list_all is_ascii_digit digits

-- hex digits, and at least one
abbrev pub are_hex_digits : List ℕ → Bool
are_hex_digits digits = not (length digits == 0) && list_all is_ascii_hexdigit digits

-- what follows `0x` or `$`, or all
abbrev pub after_hex_mark : List ℕ → List ℕ
after_hex_mark part =
    if starts_with nat_eq part (codes "0x") || starts_with nat_eq part (codes "0X") then drop 2 part else
    if starts_with nat_eq part (codes "$") then drop 1 part else
    part

-- the hex digits after `0x` or `$`
abbrev pub hex_digits : List ℕ → Option (List ℕ)
hex_digits part =
    if nat_lt (length (after_hex_mark part)) (length part) && are_hex_digits (after_hex_mark part) then Some (after_hex_mark part) else None

-- the sign of a part
abbrev pub sign_of : List ℕ → List ℕ
sign_of part = if starts_with nat_eq part (codes "-") then codes "-" else []

-- what a text with more forms may have
abbrev pub s_form_of : List ℕ → List ℕ
s_form_of part = if starts_with nat_eq (unsigned_part part) (codes "0x") then codes "; a .s text may have it" else []

-- a part is this number in hex
abbrev pub known_hex_text : List ℕ → ℕ → List ℕ
known_hex_text part n = joined (codes "a number is decimal: " ∷ part ∷ codes " is " ∷ sign_of part ∷ decimal n ∷ s_form_of part ∷ [])

-- what a part is that has this value in hex
abbrev pub hex_value_text : List ℕ → Option ℕ → List ℕ
hex_value_text part None = joined (codes "a number is decimal, and not hex as " ∷ part ∷ [])
hex_value_text part (Some n) = known_hex_text part n

-- what a part is whose hex digits these are
abbrev pub hex_text : List ℕ → List ℕ → List ℕ
hex_text part hex = hex_value_text part (number_in 16 8 hex)

-- why a part is no number, which has no decimal digits alone
abbrev pub no_decimal_text : List ℕ → Option (List ℕ) → List ℕ
no_decimal_text part (Some hex) = hex_text part hex
no_decimal_text part None = joined (part ∷ codes " is no number: that is decimal digits, which may follow a -" ∷ [])

-- why a part is no number
unfoldable pub no_number_text : List ℕ → List ℕ
no_number_text part =
    if are_digits (unsigned_part part) then
    joined (codes "a number has at most 10 digits, and " ∷ part ∷ codes " has " ∷ decimal (length (unsigned_part part)) ∷ [])
    else
    no_decimal_text part (hex_digits (unsigned_part part))

-- a part begins with a digit
abbrev pub begins_with_digit : List ℕ → Bool
begins_with_digit [] = false
begins_with_digit (c ∷ cs) = is_ascii_digit c

-- a part is a letter, and letters and digits
abbrev pub is_word : List ℕ → Bool
is_word [] = false
is_word (c ∷ cs) = is_ascii_alphabetic c && list_all is_ascii_alphanumeric cs

-- why a part that is no number is no label
abbrev pub no_word_text : List ℕ → List ℕ
no_word_text part =
    if begins_with_digit part then joined (codes "a label begins with a letter, and " ∷ part ∷ codes " with a digit" ∷ []) else
    if is_word part then joined (codes "a label has at most 16 letters and digits, and " ∷ part ∷ codes " has " ∷ decimal (length part) ∷ []) else
    joined (codes "a label is a letter, and up to 15 letters and digits, and not " ∷ part ∷ [])

-- a part is a number, in words
abbrev pub is_number_text : List ℕ → List ℕ
is_number_text part = joined (part ∷ codes " is a number" ∷ [])

-- why a part is no label
unfoldable pub no_label_text : List ℕ → List ℕ
no_label_text part = if is_number_part part then is_number_text part else no_word_text part
