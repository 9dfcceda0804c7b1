-- A session read line by line, or the first line in error.
use Rattle.std.specs.Prelude.{ℕ, ◌≡◌, ◌+◌, true, false, if◌then◌else◌, List, [], ◌∷◌, ◌++◌, Result, Ok, Err, codes}
use Rattle.std.specs.Option.{ok_or, option_map_or}
use Rattle.std.specs.Str.{bytes_eq}
use Rattle.hex.specs.Hex.{decode_of}
use Rattle.hex.specs.declared.error.FromHexError.{FromHexError}
use Rattle.module_text.specs.TextReader.Fields.{after_word, number_line}
use Rattle.module_text.specs.TextReader.Lines.{lines_of}
use Rattle.module_text.specs.TextReader.Refusal.{Refusal, refusal}
use Rattle.module_text.specs.TextReader.Steps.{◌>>=◌}
use Rattle.session_text.specs.Entries.{is_in_range, statement_keys, statement_lines}
use Rattle.session_text.specs.FileText.{with_text}
use Rattle.kernel_model.specs.KernelRecord.Ranges.{is_period, is_store_size}
use Rattle.session_text.specs.Ranges.{is_step}
use Rattle.session_text.specs.SessionForm.{code_line}
use Rattle.session_text.specs.Statements.{Statement, File, Go, is_text, statement_of}
use Rattle.session_text.specs.declared.drafts.Draft.{Draft}
use Rattle.session_text.specs.declared.drafts.Place.{Place}
use Rattle.session_text.specs.declared.drafts.Place.TheVariants.{Version as AtVersion, Store as AtStore, Machine as AtMachine, Code as AtCode, Resident as AtResident, Debug as AtDebug, Entry as AtEntry, Text as AtText, End as AtEnd}
use Rattle.session_text.specs.declared.sessions.Session.{Session}

-- a session as far as it was read, and what may come next
abbrev pub draft : Place → Session → Draft
draft place s = record { place = place; session = s }

-- nothing was read
abbrev pub first_draft : Draft
first_draft = draft AtVersion (record {
  version = 0;
  store = 0;
  period = 0;
  bare = false;
  resident = false;
  debug = false;
  lines = [];
  keys = [];
  go = 0;
})

-- ---- the first three lines

-- the version
abbrev pub version_line : ℕ → List ℕ → Result ℕ Refusal
version_line n line =
    if bytes_eq line (codes "TRIPOS 1") then Ok 1 else
    if bytes_eq line (codes "TRIPOS 2") then Ok 2 else
    Err (refusal n 1)

-- the first line says the version, and the store's line comes next
abbrev pub version_step : Session → ℕ → List ℕ → Result Draft Refusal
version_step s n line = do
  version ← version_line n line
  Ok (draft AtStore (record s { version = version }))

-- the size of the store
abbrev pub store_step : Session → ℕ → List ℕ → Result Draft Refusal
store_step s n line = do
  store ← number_line (codes "STORE ") (is_store_size s.version) n line
  Ok (draft AtMachine (record s { store = store }))

-- a clock with its period
abbrev pub tick_step : Session → ℕ → List ℕ → Result Draft Refusal
tick_step s n line = do
  period ← number_line (codes "TICK ") is_period n line
  Ok (draft AtResident (record s { period = period }))

-- `BARE`, or a clock
abbrev pub machine_step : Session → ℕ → List ℕ → Result Draft Refusal
machine_step s n line =
    if bytes_eq line (codes "BARE") then Ok (draft AtCode (record s { bare = true })) else tick_step s n line

-- ---- a bare machine

-- the steps
abbrev pub go_step : Session → ℕ → List ℕ → Result Draft Refusal
go_step s n line = do
  go ← number_line (codes "GO ") is_step n line
  Ok (draft AtEnd (record s { go = go }))

-- the bytes that the digits of line n are, where they are an even number of hex digits
abbrev pub bytes_or_refusal : ℕ → Result (List ℕ) FromHexError → Result (List ℕ) Refusal
bytes_or_refusal n (Ok bytes) = Ok bytes
bytes_or_refusal n (Err e) = Err (refusal n 1)

-- bytes of the program, after those of the lines before
abbrev pub bytes_step : Session → ℕ → List ℕ → Result Draft Refusal
bytes_step s n digits = do
  bytes ← bytes_or_refusal n (decode_of digits)
  Ok (draft AtCode (record s { lines = s.lines ++ code_line n bytes ∷ [] }))

-- bytes, or the steps
abbrev pub code_step : Session → ℕ → List ℕ → Result Draft Refusal
code_step s n line = option_map_or (bytes_step s n) (after_word (codes ":") line) (go_step s n line)

-- ---- a machine with a clock

-- text of a file may follow a `FILE` line, and nothing a `GO` line
abbrev pub place_after : Statement → Place
place_after (File name) = AtText
place_after (Go steps) = AtEnd
place_after _ = AtEntry

-- the steps of a session after a statement
abbrev pub steps_after : ℕ → Statement → ℕ
steps_after old (Go steps) = steps
steps_after old _ = old

-- what line n states is put after what the lines before it put there
abbrev pub with_statement : Session → ℕ → Statement → Draft
with_statement s n statement = draft (place_after statement) (record s {
  lines = s.lines ++ statement_lines n statement [];
  keys = s.keys ++ statement_keys statement;
  go = steps_after s.go statement;
})

-- the same, where its numbers and names are in their ranges
abbrev pub statement_step : Session → ℕ → Statement → Result Draft Refusal
statement_step s n statement =
    if is_in_range s.version statement then Ok (with_statement s n statement) else Err (refusal n 2)

-- a statement
abbrev pub entry_step : Session → ℕ → List ℕ → Result Draft Refusal
entry_step s n line = do
  statement ← ok_or (statement_of s.version line) (refusal n 1)
  statement_step s n statement

-- `DEBUG`, or a statement
abbrev pub debug_step : Session → ℕ → List ℕ → Result Draft Refusal
debug_step s n line =
    if bytes_eq line (codes "DEBUG") then Ok (draft AtEntry (record s { debug = true })) else entry_step s n line

-- `RESIDENT`, or a statement
abbrev pub resident_step : Session → ℕ → List ℕ → Result Draft Refusal
resident_step s n line =
    if bytes_eq line (codes "RESIDENT") then Ok (draft AtDebug (record s { resident = true })) else entry_step s n line

-- text goes to the last file
abbrev pub file_step : Session → ℕ → List ℕ → Result Draft Refusal
file_step s n text =
    if is_text text then Ok (draft AtText (record s { lines = with_text s.lines text })) else Err (refusal n 1)

-- text, or a statement
abbrev pub text_step : Session → ℕ → List ℕ → Result Draft Refusal
text_step s n line = option_map_or (file_step s n) (after_word (codes ":") line) (entry_step s n line)

-- ---- all lines

-- line n, by what may come there
abbrev pub step_at : Place → Session → ℕ → List ℕ → Result Draft Refusal
step_at AtVersion s n line = version_step s n line
step_at AtStore s n line = store_step s n line
step_at AtMachine s n line = machine_step s n line
step_at AtCode s n line = code_step s n line
step_at AtResident s n line = resident_step s n line
step_at AtDebug s n line = debug_step s n line
step_at AtEntry s n line = entry_step s n line
step_at AtText s n line = text_step s n line
step_at AtEnd s n line = Err (refusal n 1)

-- line n is read, and says what may come next, or is the first in error
unfoldable pub step : Draft → ℕ → List ℕ → Result Draft Refusal
step d n line = step_at d.place d.session n line

-- the session, once its `GO` was read; line n would be the next
abbrev pub ended : Place → Session → ℕ → Result Session Refusal
ended AtEnd s n = Ok s
ended _ s n = Err (refusal n 3)

-- the session, from line n on
abbrev pub read_on : Draft → ℕ → List (List ℕ) → Result Session Refusal
read_on d n [] = ended d.place d.session n
read_on d n (line ∷ lines) = do
  next ← step d n line
  read_on next (n + 1) lines

-- the session of all the lines
abbrev pub session_lines : List (List ℕ) → Result Session Refusal
session_lines lines = read_on first_draft 1 lines

-- the session of a text
abbrev pub session_of : List ℕ → Result Session Refusal
session_of text = session_lines (lines_of text)

-- the text is refused at line n with this code
abbrev pub IsRefused : List ℕ → ℕ → ℕ → Type 0
IsRefused text n code = session_of text ≡ Err (refusal n code)
