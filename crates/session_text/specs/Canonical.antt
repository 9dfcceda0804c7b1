-- The canonical text of a session.
use Rattle.std.specs.Prelude.{ℕ, ◌≡◌, ◌+◌, ◌<◌, ◌≤◌, Bool, true, false, if◌then◌else◌, IsTrue, List, [], ◌∷◌, ◌++◌, map, length, codes, decimal}
use Rattle.std.specs.List.{AllByRecursion, flat_map}
use Rattle.hex.specs.Hex.{IsBytes, encode_lower}
use Rattle.module_text.specs.TextReader.Lines.{lines_of, text_of_lines}
use Rattle.session_text.specs.Entries.{colon_line, is_in_range}
use Rattle.kernel_model.specs.KernelRecord.Ranges.{IsVersion, is_period, is_store_size}
use Rattle.ram_disc.specs.Name.{is_name}
use Rattle.session_text.specs.Ranges.{is_step, most_names}
use Rattle.session_text.specs.SessionForm.{IsBare}
use Rattle.session_text.specs.Statements.{Statement, File as FileOf, Task as TaskOf, At as AtOf, Key as KeyOf, Go as GoOf, is_text, task_text}
use Rattle.session_text.specs.declared.sessions.Session.{Session}
use Rattle.session_text.specs.declared.sessions.SessionLine.{SessionLine}
use Rattle.session_text.specs.declared.sessions.LineForm.{LineForm}
use Rattle.session_text.specs.declared.sessions.LineForm.TheVariants.{Code, File, Task}

-- ---- which sessions have a text

-- a file has lines of text, each with an LF
abbrev pub IsFileText : List ℕ → Type 0
IsFileText bytes =
    (texts : List (List ℕ)) × (bytes ≡ text_of_lines texts) × AllByRecursion (λ text. IsTrue (is_text text)) texts

-- a line of a bare machine gives bytes, and one of another machine a file or a task
abbrev pub IsLawfulForm : Bool → ℕ → LineForm → Type 0
IsLawfulForm true version (Code bytes) = IsBytes bytes
IsLawfulForm true version _ = ⊥
IsLawfulForm false version (Code bytes) = ⊥
IsLawfulForm false version (File name bytes) = IsTrue (is_name name) × IsFileText bytes
IsLawfulForm false version (Task id pri stack names) =
    (1 ≤ length names) × (length names ≤ most_names version) × IsTrue (is_in_range version (TaskOf id pri stack names))

-- a key is a byte, and its step is in its range
abbrev pub IsLawfulKey : ℕ × ℕ → Type 0
IsLawfulKey key = IsTrue (is_step key.0) × (key.1 < 256)

-- a bare machine has no clock and no keys, and another one has a clock
abbrev pub IsLawfulMachine : Bool → Session → Type 0
IsLawfulMachine true s = IsBare s
IsLawfulMachine false s = IsTrue (is_period s.period) × (s.debug ≡ true → s.resident ≡ true) × AllByRecursion IsLawfulKey s.keys

-- the fields of a session are within the rules
pub record IsLawful (s : Session) : Type 0 where
  -- the version is 1 or 2
  pub version : IsVersion s.version
  -- its version may have a store of so many words
  pub store : IsTrue (is_store_size s.version s.store)
  -- what it says of the clock, the residents and the keys
  pub machine : IsLawfulMachine s.bare s
  -- each line may be in such a session
  pub lines : AllByRecursion (λ line. IsLawfulForm s.bare s.version line.form) s.lines
  -- the most steps are a number of steps
  pub steps : IsTrue (is_step s.go)

-- ---- the lines of the text

-- the first two lines
abbrev pub head_text : ℕ → ℕ → List (List ℕ)
head_text version store = (codes "TRIPOS " ++ decimal version) ∷ (codes "STORE " ++ decimal store) ∷ []

-- the lines after them, up to the first that puts something into the machine
abbrev pub machine_text : Bool → ℕ → Bool → Bool → List (List ℕ)
machine_text true period resident debug = codes "BARE" ∷ []
machine_text false period resident debug =
    (codes "TICK " ++ decimal period)
    ∷ ((if resident then codes "RESIDENT" ∷ [] else []) ++ (if debug then codes "DEBUG" ∷ [] else []))

-- a statement's line
abbrev pub statement_text : Statement → List ℕ
statement_text (FileOf name) = codes "FILE " ++ name
statement_text (TaskOf id pri stack names) = task_text (decimal id) (decimal pri) (decimal stack) names
statement_text (AtOf step text) = codes "AT " ++ (decimal step ++ (codes " :" ++ text))
statement_text (KeyOf step byte) = codes "KEY " ++ (decimal step ++ (codes " " ++ encode_lower (byte ∷ [])))
statement_text (GoOf steps) = codes "GO " ++ decimal steps

-- the lines of bytes, of a file with its text, or of a task
abbrev pub form_text : LineForm → List (List ℕ)
form_text (Code bytes) = (codes ":" ++ encode_lower bytes) ∷ []
form_text (File name bytes) = statement_text (FileOf name) ∷ map colon_line (lines_of bytes)
form_text (Task id pri stack names) = statement_text (TaskOf id pri stack names) ∷ []

-- the lines of all of these, one after another
abbrev pub lines_text : List SessionLine → List (List ℕ)
lines_text lines = flat_map (λ line. form_text line.form) lines

-- a line for each key
abbrev pub keys_text : List (ℕ × ℕ) → List (List ℕ)
keys_text keys = map (λ key. statement_text (KeyOf key.0 key.1)) keys

-- The lines of a session. No number has a leading zero, hex is in lower case, and the keys come before the last line.
abbrev pub canonical_lines : Session → List (List ℕ)
canonical_lines s =
    head_text s.version s.store
    ++ (machine_text s.bare s.period s.resident s.debug ++ (lines_text s.lines ++ (keys_text s.keys ++ statement_text (GoOf s.go) ∷ [])))

-- the one canonical text of a session: these lines, each of them ended by LF
unfoldable pub canonical : Session → List ℕ
canonical s = text_of_lines (canonical_lines s)

-- ---- the numbers of its lines

-- the lines with their numbers from n on, and all else as it was
abbrev pub numbered_lines : ℕ → List SessionLine → List SessionLine
numbered_lines n [] = []
numbered_lines n (line ∷ lines) = record line { line = n } ∷ numbered_lines (n + length (form_text line.form)) lines

-- the session with the numbers that its lines have in its text
abbrev pub with_numbers : Session → Session
with_numbers s =
    record s { lines = numbered_lines (3 + length (machine_text s.bare s.period s.resident s.debug)) s.lines }
