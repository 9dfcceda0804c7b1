-- What a line of a machine with a clock states, with its numbers and names as the line has them.
use Rattle.std.specs.Prelude.{ℕ, ◌≡◌, ◌+◌, ◌==◌, ◌||◌, ◌&&◌, ◌≤◌, if◌then◌else◌, Bool, IsTrue, List, [], ◌∷◌, ◌++◌, length, take, drop, Option, Some, None, Result, Ok, option_and_then, option_map, codes, nat_le}
use Rattle.std.specs.Char.{is_ascii_graphic}
use Rattle.std.specs.List.{flat_map, list_all, position, slice_split}
use Rattle.std.specs.Option.{option_map_or}
use Rattle.hex.specs.Hex.{decode_of}
use Rattle.hex.specs.declared.error.FromHexError.{FromHexError}
use Rattle.module_text.specs.TextReader.Fields.{IsNumberLine, after_word}
use Rattle.module_text.specs.TextReader.Numbers.{IsNumber, number_of}
use Rattle.session_text.specs.Ranges.{most_names}

-- a statement, with its numbers and names in the order in which the line has them
pub data Statement : Type 0 where
  File : List ℕ → Statement
  Task : ℕ → ℕ → ℕ → List (List ℕ) → Statement
  At : ℕ → List ℕ → Statement
  Key : ℕ → ℕ → Statement
  Go : ℕ → Statement

-- ---- fields and texts

-- text has the bytes from the blank to `~`
abbrev pub is_text : List ℕ → Bool
is_text text = list_all (λ c. is_ascii_graphic c || (c == 32)) text

-- a field has one byte at least, and no blank
abbrev pub is_field : List ℕ → Bool
is_field field = nat_le 1 (length field) && list_all is_ascii_graphic field

-- what is between blanks
abbrev pub fields : List ℕ → List (List ℕ)
fields text = slice_split (λ c. c == 32) text

-- ---- which lines state what

-- names, with a blank before each
abbrev pub names_text : List (List ℕ) → List ℕ
names_text names = flat_map (λ name. 32 ∷ name) names

-- a line of a task, by its fields
abbrev pub task_text : List ℕ → List ℕ → List ℕ → List (List ℕ) → List ℕ
task_text id pri stack names = codes "TASK " ++ (id ++ (32 ∷ (pri ++ (32 ∷ (stack ++ names_text names)))))

-- the line states this, whatever the numbers and names are
abbrev pub States : Statement → List ℕ → Type 0
States (File name) line = IsTrue (is_field name) × (line ≡ codes "FILE " ++ name)
States (Task id pri stack names) line =
    (a b c : List ℕ) × IsNumber a id × IsNumber b pri × IsNumber c stack × (1 ≤ length names)
    × IsTrue (list_all is_field names) × (line ≡ task_text a b c names)
States (At step text) line =
    (a : List ℕ) × IsNumber a step × IsTrue (is_text text) × (line ≡ codes "AT " ++ (a ++ (codes " :" ++ text)))
States (Key step byte) line =
    (a digits : List ℕ) × IsNumber a step × (decode_of digits ≡ Ok (byte ∷ []))
    × (line ≡ codes "KEY " ++ (a ++ (codes " " ++ digits)))
States (Go steps) line = IsNumberLine (codes "GO ") steps line

-- ---- the statement of a line

infixl 10 ◌>>=◌
-- a step, and then the next one with what it gave, unless it gave nothing
abbrev ◌>>=◌ : {A B : Type 0} → Option A → (A → Option B) → Option B
o >>= f = option_and_then f o

-- what comes before and after the first blank, if there is one
abbrev pub split_at_blank : List ℕ → Option (List ℕ × List ℕ)
split_at_blank text = option_map (λ i. (take i text, drop (i + 1) text)) (position (λ c. c == 32) text)

-- the number before the first blank, and what comes after that
abbrev pub number_field : List ℕ → Option (ℕ × List ℕ)
number_field text = do
  parts ← split_at_blank text
  n ← number_of parts.0
  Some (n, parts.1)

-- the one byte that was decoded
abbrev pub one_byte : Result (List ℕ) FromHexError → Option ℕ
one_byte (Ok (byte ∷ [])) = Some byte
one_byte _ = None

-- lawful fields, at most so many
abbrev pub are_fields : ℕ → List (List ℕ) → Bool
are_fields most parts = list_all is_field parts && nat_le (length parts) most

-- a file's name, after `FILE`
abbrev pub file_of : List ℕ → Option Statement
file_of name = if is_field name then Some (File name) else None

-- a task's number, priority, stack and names, after `TASK`, of which there are at most so many
abbrev pub task_of : ℕ → List ℕ → Option Statement
task_of most text = do
  id ← number_field text
  pri ← number_field id.1
  stack ← number_field pri.1
  if are_fields most (fields stack.1) then Some (Task id.0 pri.0 stack.0 (fields stack.1)) else None

-- the step and the text that is typed then, after `AT`
abbrev pub at_of : List ℕ → Option Statement
at_of text = do
  step ← number_field text
  typed ← after_word (codes ":") step.1
  if is_text typed then Some (At step.0 typed) else None

-- the step and the byte that is typed then, after `KEY`
abbrev pub key_of : List ℕ → Option Statement
key_of text = do
  step ← number_field text
  byte ← one_byte (decode_of step.1)
  Some (Key step.0 byte)

-- the number of steps, after `GO`
abbrev pub go_of : List ℕ → Option Statement
go_of text = option_map (λ steps. Go steps) (number_of text)

-- the statement of a line in this version, if it is one
unfoldable pub statement_of : ℕ → List ℕ → Option Statement
statement_of version line =
    option_map_or file_of (after_word (codes "FILE ") line)
    (option_map_or (task_of (most_names version)) (after_word (codes "TASK ") line)
    (option_map_or at_of (after_word (codes "AT ") line)
    (option_map_or key_of (after_word (codes "KEY ") line)
    (option_map_or go_of (after_word (codes "GO ") line)
    None))))

-- a task has at most eight names
abbrev pub HasFewNames : Statement → Type 0
HasFewNames (Task id pri stack names) = length names ≤ 8
HasFewNames _ = Unit {0}
