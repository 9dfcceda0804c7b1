-- What a line of a saved machine's files, streams, pipes, keys or words states, or its last line.
use Rattle.std.specs.Prelude.{ℕ, ◌≡◌, ◌<◌, ◌≤◌, ◌^◌, ◌==◌, ◌&&◌, if◌then◌else◌, IsTrue, List, [], ◌∷◌, ◌++◌, length, slice_index, Option, Some, None, codes, nat_le, option_and_then, option_map}
use Rattle.std.specs.Int.{w32, from_be_bytes}
use Rattle.std.specs.Option.{option_map_or}
use Rattle.hex.specs.Hex.{IsBytes, encode_lower}
use Rattle.byte_streams.specs.Pieces.{hex_digits_of}
use Rattle.module_text.specs.TextReader.Fields.{IsNumberLine, after_word}
use Rattle.module_text.specs.TextReader.Numbers.{IsNumber, number_of}
use Rattle.session_text.specs.Statements.{is_field, number_field, split_at_blank}
use Rattle.saved_text.specs.SavedLines.Heads.{hex_field}
use Rattle.saved_text.specs.SavedLines.HexText.{bytes_of, is_hex}

-- The numbers and names are those that the line has, in their ranges or not.
pub data Statement : Type 0 where
  File : List ℕ → Statement
  Bytes : List ℕ → Statement
  Stream : ℕ → ℕ → ℕ → List ℕ → Statement
  Pipe : ℕ → ℕ → ℕ → ℕ → List ℕ → List ℕ → Statement
  Key : ℕ → ℕ → Statement
  Word : ℕ → ℕ → Statement
  Go : ℕ → Statement

-- ---- which lines state what

-- a stream's line, by its fields
abbrev pub stream_text : List ℕ → List ℕ → List ℕ → List ℕ → List ℕ
stream_text k m pos name = codes "STREAM " ++ (k ++ (32 ∷ (m ++ (32 ∷ (pos ++ (32 ∷ name))))))

-- a pipe's line, by its fields
abbrev pub pipe_text : List ℕ → List ℕ → List ℕ → List ℕ → List ℕ → List ℕ → List ℕ
pipe_text k r w e name digits =
    codes "PIPE " ++ (k ++ (32 ∷ (r ++ (32 ∷ (w ++ (32 ∷ (e ++ (32 ∷ (name ++ (32 ∷ (codes ":" ++ digits)))))))))))

-- the line states this
abbrev pub States : Statement → List ℕ → Type 0
States (File name) line = IsTrue (is_field name) × (line ≡ codes "FILE " ++ name)
States (Bytes bytes) line =
    (1 ≤ length bytes) × (length bytes ≤ 32) × IsBytes bytes × (line ≡ codes ":" ++ encode_lower bytes)
States (Stream k m pos name) line =
    (a b c : List ℕ) × IsNumber a k × IsNumber b m × IsNumber c pos × IsTrue (is_field name) × (line ≡ stream_text a b c name)
States (Pipe k r w e name bytes) line =
    (a b c d : List ℕ) × IsNumber a k × IsNumber b r × IsNumber c w × IsNumber d e × IsTrue (is_field name) × IsBytes bytes
    × (line ≡ pipe_text a b c d name (encode_lower bytes))
States (Key step byte) line =
    (a : List ℕ) × IsNumber a step × (byte < 256) × (line ≡ codes "KEY " ++ (a ++ (32 ∷ encode_lower (byte ∷ []))))
States (Word address word) line =
    (a : List ℕ) × IsNumber a address × (word < 2 ^ 32) × (line ≡ codes "W " ++ (a ++ (32 ∷ hex_digits_of word)))
States (Go steps) line = IsNumberLine (codes "GO ") steps line

-- ---- the statement of a line

infixl 10 ◌>>=◌
-- a step, and then the next one with what it gave, unless it gave nothing
abbrev ◌>>=◌ : {A B : Type 0} → Option A → (A → Option B) → Option B
o >>= f = option_and_then f o

-- a file's name
abbrev pub file_of : List ℕ → Option Statement
file_of name = if is_field name then Some (File name) else None

-- 1 to 32 bytes
abbrev pub byte_line_of : List ℕ → Option Statement
byte_line_of digits =
    if is_hex digits && nat_le 2 (length digits) && nat_le (length digits) 64 then Some (Bytes (bytes_of digits)) else None

-- the numbers and the name of a stream that is open: its own number, whether it writes, and its position
abbrev pub stream_of : List ℕ → Option Statement
stream_of text = do
  k ← number_field text
  m ← number_field k.1
  pos ← number_field m.1
  if is_field pos.1 then Some (Stream k.0 m.0 pos.0 pos.1) else None

-- a field before a blank, and what comes after that
abbrev pub field_before_blank : List ℕ → Option (List ℕ × List ℕ)
field_before_blank text = do
  parts ← split_at_blank text
  if is_field parts.0 then Some parts else None

-- a pipe's number, its three facts, its name and its bytes
abbrev pub pipe_of : List ℕ → Option Statement
pipe_of text = do
  k ← number_field text
  r ← number_field k.1
  w ← number_field r.1
  e ← number_field w.1
  name ← field_before_blank e.1
  digits ← hex_field name.1
  Some (Pipe k.0 r.0 w.0 e.0 name.0 (bytes_of digits))

-- the byte that two digits are
abbrev pub byte_of : List ℕ → Option ℕ
byte_of digits = if is_hex digits && (length digits == 2) then Some (slice_index (bytes_of digits) 0) else None

-- a key that is still to come: its step and its byte
abbrev pub key_of : List ℕ → Option Statement
key_of text = do
  step ← number_field text
  byte ← byte_of step.1
  Some (Key step.0 byte)

-- the word that eight digits are
abbrev pub word_of : List ℕ → Option ℕ
word_of digits = if is_hex digits && (length digits == 8) then Some (from_be_bytes w32 (bytes_of digits)) else None

-- a word of the store: its address and itself
abbrev pub word_line_of : List ℕ → Option Statement
word_line_of text = do
  address ← number_field text
  word ← word_of address.1
  Some (Word address.0 word)

-- the number of steps that the machine is to take
abbrev pub go_of : List ℕ → Option Statement
go_of text = option_map (λ steps. Go steps) (number_of text)

-- the statement of a line, if it is one
unfoldable pub statement_of : List ℕ → Option Statement
statement_of line =
    option_map_or file_of (after_word (codes "FILE ") line)
    (option_map_or byte_line_of (after_word (codes ":") line)
    (option_map_or stream_of (after_word (codes "STREAM ") line)
    (option_map_or pipe_of (after_word (codes "PIPE ") line)
    (option_map_or key_of (after_word (codes "KEY ") line)
    (option_map_or word_line_of (after_word (codes "W ") line)
    (option_map_or go_of (after_word (codes "GO ") line)
    None))))))
