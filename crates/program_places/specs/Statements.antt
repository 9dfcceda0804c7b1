-- What a line of a map states.
use Rattle.std.specs.Prelude.{ℕ, ◌==◌, ◌&&◌, ◌/◌, ◌%◌, ◌^◌, if◌then◌else◌, List, [], ◌∷◌, Option, Some, None, Result, Ok, Err, codes, nat_lt, option_map}
use Rattle.std.specs.Option.{ok_or, option_map_or}
use Rattle.std.specs.Str.{bytes_eq}
use Rattle.module_text.specs.TextReader.Fields.{after_word}
use Rattle.module_text.specs.TextReader.Numbers.{number_of}
use Rattle.module_text.specs.TextReader.Refusal.{Refusal, refusal}
use Rattle.module_text.specs.TextReader.Steps.{◌>>=◌}
use Rattle.module_text.specs.Words.{word_of}
use Rattle.session_text.specs.Statements.{fields, number_field, split_at_blank}
use Rattle.program_places.specs.declared.maps.MappedLine.{MappedLine}
use Rattle.program_places.specs.declared.statements.Statement.{Statement}
use Rattle.program_places.specs.declared.statements.Statement.TheVariants.{Program, Hunk, Line, At}

-- what a field is, or the refusal of line n: it has none of the four forms
abbrev pub or_no_line : {X : Type 0} → ℕ → Option X → Result X Refusal
or_no_line n x = ok_or x (refusal n 1)

-- a number, or the refusal of line n: the number is out of its range
abbrev pub or_bad_number : {X : Type 0} → ℕ → Option X → Result X Refusal
or_bad_number n x = ok_or x (refusal n 2)

-- ---- `program NAME FILE`

-- a name, and the path of a file
abbrev pub program_of : ℕ → List ℕ → Result Statement Refusal
program_of n text = do
  parts ← or_no_line n (split_at_blank text)
  Ok (Program parts.0 parts.1)

-- ---- `hunk NAME WORD..`

-- the word that a field is, 1 to 8 hex digits; `-` is one that is relocated
abbrev pub hunk_word : List ℕ → Option (Option ℕ)
hunk_word field = if bytes_eq field (codes "-") then Some None else option_map (λ word. Some word) (word_of field)

-- the words that fields are, if each of them is one
abbrev pub words_of : ℕ → List (List ℕ) → Result (List (Option ℕ)) Refusal
words_of n [] = Ok []
words_of n (field ∷ others) = do
  word ← or_no_line n (hunk_word field)
  words ← words_of n others
  Ok (word ∷ words)

-- a name, and words with a blank between two
abbrev pub hunk_of : ℕ → List ℕ → Result Statement Refusal
hunk_of n text = do
  parts ← or_no_line n (split_at_blank text)
  words ← words_of n (fields parts.1)
  Ok (Hunk parts.0 words)

-- ---- `line NAME OFFSET LINE LABEL`

-- an offset is below 2 ^ 32
abbrev pub offset_of : ℕ → Option ℕ
offset_of offset = if nat_lt offset (2 ^ 32) then Some offset else None

-- a label, or `-` where there is none
abbrev pub label_of : List ℕ → Option (List ℕ)
label_of field = if bytes_eq field (codes "-") then None else Some field

-- an offset, the number of a line, and a label
abbrev pub mapped_line : ℕ → List ℕ → Result MappedLine Refusal
mapped_line n text = do
  first ← or_no_line n (number_field text)
  number ← or_no_line n (number_field first.1)
  offset ← or_bad_number n (offset_of first.0)
  Ok (record { offset = offset; number = number.0; label = label_of number.1 })

-- a name, and the line of its file
abbrev pub line_of : ℕ → List ℕ → Result Statement Refusal
line_of n text = do
  parts ← or_no_line n (split_at_blank text)
  line ← mapped_line n parts.1
  Ok (Line parts.0 line)

-- ---- `at NAME BYTE`

-- the address of the word whose first byte is at this byte address, which is below 2 ^ 32
abbrev pub word_of_byte : ℕ → Option ℕ
word_of_byte byte = if (byte % 4 == 0) && nat_lt (byte / 4) (2 ^ 32) then Some (byte / 4) else None

-- a name, and the byte address of its hunk
abbrev pub at_of : ℕ → List ℕ → Result Statement Refusal
at_of n text = do
  parts ← or_no_line n (split_at_blank text)
  byte ← or_no_line n (number_of parts.1)
  word ← or_bad_number n (word_of_byte byte)
  Ok (At (record { name = parts.0; word = word }))

-- ---- a line

-- what line n states, by its first word
unfoldable pub statement_of : ℕ → List ℕ → Result Statement Refusal
statement_of n line =
    option_map_or (program_of n) (after_word (codes "program ") line)
    (option_map_or (hunk_of n) (after_word (codes "hunk ") line)
    (option_map_or (line_of n) (after_word (codes "line ") line)
    (option_map_or (at_of n) (after_word (codes "at ") line)
    (Err (refusal n 1)))))
