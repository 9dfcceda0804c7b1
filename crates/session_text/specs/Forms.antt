-- The forms of a session's lines, whatever their numbers and names are.
use Rattle.std.specs.Prelude.{ℕ, ◌≡◌, List, length, codes}
use Rattle.module_text.specs.TextReader.Fields.{IsNumberLine}
use Rattle.session_text.specs.Statements.{Statement, File as FileOf, Task as TaskOf, At as AtOf, Key as KeyOf, Go as GoOf, States}

-- A form for each kind of line with a number or a name, for tasks one for each count of names. A line without them has
-- a form of its own, which is the line.
pub data Form : Type 0 where
  Store : Form
  Tick : Form
  File : Form
  Task : ℕ → Form
  At : Form
  Key : Form
  Go : Form
  Fixed : List ℕ → Form

-- the form of a statement
abbrev pub form_of : Statement → Form
form_of (FileOf name) = File
form_of (TaskOf id pri stack names) = Task (length names)
form_of (AtOf step text) = At
form_of (KeyOf step byte) = Key
form_of (GoOf steps) = Go

-- the line is this word and some number
abbrev pub HasNumber : List ℕ → List ℕ → Type 0
HasNumber word line = (n : ℕ) × IsNumberLine word n line

-- the line states something of this form
abbrev pub HasStatement : Form → List ℕ → Type 0
HasStatement form line = (statement : Statement) × States statement line × (form_of statement ≡ form)

-- the line has the bytes of the form
abbrev pub HasForm : Form → List ℕ → Type 0
HasForm Store line = HasNumber (codes "STORE ") line
HasForm Tick line = HasNumber (codes "TICK ") line
HasForm (Fixed bytes) line = line ≡ bytes
HasForm form line = HasStatement form line
