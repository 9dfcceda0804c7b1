-- What is said of a byte that no part of a line has.
use Rattle.std.specs.Prelude.{ℕ, ◌+◌, ◌/◌, ◌%◌, ◌==◌, ◌&&◌, ◌||◌, Bool, if◌then◌else◌, List, [], ◌∷◌, drop, codes, decimal, nat_eq, nat_le, nat_lt, Option, Some, None}
use Rattle.std.specs.Char.{is_ascii_alphanumeric}
use Rattle.std.specs.List.{starts_with}
use Rattle.assembly_errors.specs.Remarks.{Remark, said_of}

-- a part of a line may have the byte, or it is a space between parts
abbrev pub is_line_byte : ℕ → Bool
is_line_byte c = is_ascii_alphanumeric c || c == 36 || c == 58 || c == 45 || c == 32

-- a character that is shown, or a space
abbrev pub is_printable : ℕ → Bool
is_printable c = nat_le 32 c && nat_le c 126

-- a digit in hex
abbrev pub hex_digit : ℕ → ℕ
hex_digit digit = if nat_lt digit 10 then 48 + digit else 87 + digit

-- what is said of any other byte
abbrev pub other_remark : ℕ → ℕ → Remark
other_remark column byte =
    if is_printable byte then said_of column (codes "no part of a line has a " ∷ (byte ∷ []) ∷ []) else
    said_of column (codes "no part of a line has the byte " ∷ (hex_digit (byte / 16) ∷ hex_digit (byte % 16) ∷ []) ∷ codes " in hex" ∷ [])

-- what is said of a sign that other texts have
abbrev pub sign_words : ℕ → Option (List ℕ)
sign_words byte =
    if byte == 9 then Some (codes "a tab is here, and only spaces may be between the parts of a line; a .s text may have it") else
    if byte == 13 then Some (codes "a carriage return is here, which may be at the end of a line alone, before its LF") else
    if byte == 35 then Some (codes "# begins no number and no comment: a number is decimal digits, and a comment begins with ;") else
    if byte == 34 then Some (codes "a quote is here; a text is written byte by byte, by lines DB n; a .s text may have DS") else
    if byte == 95 then Some (codes "a label has letters and digits alone, and no _") else
    if byte == 44 then Some (codes "operands have spaces between them, and no comma") else
    if byte == 43 then Some (codes "a number has no +, and there are no sums") else
    None

-- what is said of a sign, in these words
abbrev pub sign_said : ℕ → ℕ → Option (List ℕ) → Remark
sign_said column byte (Some words) = said_of column (words ∷ [])
sign_said column byte None = other_remark column byte

-- what is said of a sign that means nothing here
abbrev pub sign_remark : ℕ → ℕ → Remark
sign_remark column byte = sign_said column byte (sign_words byte)

-- what is said of a quote, and the character between it and another
abbrev pub quote_remark : ℕ → Option ℕ → Remark
quote_remark column (Some c) =
    said_of column (codes "a character is no number: '" ∷ (c ∷ []) ∷ codes "' is " ∷ decimal c ∷ codes "; a .s text may have it" ∷ [])
quote_remark column None = said_of column (codes "a quote is here; a character is written as its number, from 0 to 255" ∷ [])

-- the character after a quote, where another comes after it
abbrev pub quoted_character : List ℕ → Option ℕ
quoted_character [] = None
quoted_character (c ∷ cs) = if is_printable c && starts_with nat_eq cs (39 ∷ []) then Some c else None

-- these are the second and third byte of a typographic quote
abbrev pub begins_with_quote : List ℕ → Bool
begins_with_quote rest =
    starts_with nat_eq rest (128 ∷ 152 ∷ []) || starts_with nat_eq rest (128 ∷ 153 ∷ []) || starts_with nat_eq rest (128 ∷ 154 ∷ [])
    || starts_with nat_eq rest (128 ∷ 155 ∷ []) || starts_with nat_eq rest (128 ∷ 156 ∷ []) || starts_with nat_eq rest (128 ∷ 157 ∷ [])

-- what is said of a byte, before these
abbrev pub byte_then : ℕ → ℕ → List ℕ → Remark
byte_then column byte rest =
    if byte == 39 then quote_remark column (quoted_character rest) else
    if byte == 47 && starts_with nat_eq rest (47 ∷ []) then said_of column (codes "a comment begins with ; and not with //" ∷ []) else
    if byte == 194 && starts_with nat_eq rest (160 ∷ []) then
    said_of column (codes "a no-break space is here, and only plain spaces may be between the parts of a line" ∷ [])
    else
    if byte == 226 && begins_with_quote rest then said_of column (codes "a typographic quote is here, and no part of a line has one" ∷ []) else
    sign_remark column byte

-- what is said of the first of these bytes
abbrev pub first_byte_remark : ℕ → List ℕ → Remark
first_byte_remark column [] = said_of column []
first_byte_remark column (byte ∷ rest) = byte_then column byte rest

-- the text begins with a byte order mark, if this is its first line
abbrev pub begins_with_mark : ℕ → List ℕ → Bool
begins_with_mark n code = n == 1 && starts_with nat_eq code (239 ∷ 187 ∷ 191 ∷ [])

-- what is said of the byte at a place of line n
abbrev pub byte_remark : ℕ → List ℕ → ℕ → Remark
byte_remark n code place =
    if begins_with_mark n code then
    said_of
    (place + 1)
    (codes "the text begins with a byte order mark, three bytes that an editor has put there; " ∷ codes "it has to begin with its first line" ∷ [])
    else
    first_byte_remark (place + 1) (drop place code)
