-- What a session's text is, line by line.
use Rattle.std.specs.Prelude.{ℕ, ◌≡◌, ◌+◌, ◌⊎◌, Bool, true, false, IsTrue, List, [], ◌∷◌, ◌++◌, length, Ok, codes, decimal}
use Rattle.hex.specs.Hex.{decode_of}
use Rattle.module_text.specs.TextReader.Lines.{lines_of}
use Rattle.module_text.specs.TextReader.Fields.{IsNumberLine}
use Rattle.session_text.specs.Entries.{Entry, AreEntries, keys_in, lines_in}
use Rattle.kernel_model.specs.KernelRecord.Ranges.{IsVersion, is_period, is_store_size}
use Rattle.session_text.specs.Ranges.{is_step}
use Rattle.session_text.specs.declared.sessions.Session.{Session}
use Rattle.session_text.specs.declared.sessions.SessionLine.{SessionLine}
use Rattle.session_text.specs.declared.sessions.LineForm.TheVariants.{Code}

-- the first line
abbrev pub IsVersionLine : ℕ → List ℕ → Type 0
IsVersionLine version line = IsVersion version × (line ≡ codes "TRIPOS " ++ decimal version)

-- ---- a bare machine

-- the session's line for the bytes of line n
abbrev pub code_line : ℕ → List ℕ → SessionLine
code_line n bytes = record { line = n; form = Code bytes }

-- line n of a text is a colon and the hex digits of bytes
abbrev pub IsCodeLine : ℕ → SessionLine → List ℕ → Type 0
IsCodeLine n code line =
    (digits bytes : List ℕ) × (line ≡ codes ":" ++ digits) × (decode_of digits ≡ Ok bytes) × (code ≡ code_line n bytes)

-- the lines of a text from line n on are such lines, one each
abbrev pub AreCodeLines : ℕ → List SessionLine → List (List ℕ) → Type 0
AreCodeLines n [] [] = Unit {0}
AreCodeLines n [] (line ∷ lines) = ⊥
AreCodeLines n (code ∷ more) [] = ⊥
AreCodeLines n (code ∷ more) (line ∷ lines) = IsCodeLine n code line × AreCodeLines (n + 1) more lines

-- a bare machine has no ticks, no residents and no keys
pub record IsBare (s : Session) : Type 0 where
  -- it has no kernel
  pub bare : s.bare ≡ true
  -- it has no clock
  pub period : s.period ≡ 0
  -- it has no residents
  pub resident : s.resident ≡ false
  -- it has no task that reports faults
  pub debug : s.debug ≡ false
  -- no key is typed
  pub keys : s.keys ≡ []

-- its lines from the third on, but for the last: `BARE` and code
pub record AreBareLines (s : Session) (lines : List (List ℕ)) : Type 0 where
  -- the lines of its program
  pub code : List (List ℕ)
  -- `BARE` and these are all lines
  pub all : lines ≡ codes "BARE" ∷ code
  -- they have these bytes
  pub code_lines : AreCodeLines 4 s.lines code
  -- the machine has no kernel
  pub machine : IsBare s

-- ---- a machine with a clock

-- the lines that say whether there are residents, and a task that reports faults
abbrev pub AreOptions : Bool → Bool → List (List ℕ) → Type 0
AreOptions true true lines = lines ≡ codes "RESIDENT" ∷ codes "DEBUG" ∷ []
AreOptions true false lines = lines ≡ codes "RESIDENT" ∷ []
AreOptions false true lines = ⊥
AreOptions false false lines = lines ≡ []

-- its lines from the third on, but for the last: the period, the options and the entries
pub record AreClockLines (s : Session) (lines : List (List ℕ)) : Type 0 where
  -- the line of the period
  pub tick : List ℕ
  -- the lines of residents and of faults
  pub options : List (List ℕ)
  -- the lines of files, tasks and keys
  pub rest : List (List ℕ)
  -- what these say
  pub entries : List Entry
  -- these are all lines
  pub all : lines ≡ tick ∷ (options ++ rest)
  -- the machine has a kernel
  pub clock : s.bare ≡ false
  -- the first line has the period, in steps
  pub tick_line : IsNumberLine (codes "TICK ") s.period tick
  -- it is one that a clock may have
  pub period : IsTrue (is_period s.period)
  -- which residents there are
  pub option_lines : AreOptions s.resident s.debug options
  -- the other lines are the entries
  pub entry_lines : AreEntries s.version entries rest
  -- the session's lines are those of files and tasks
  pub lines_are : s.lines ≡ lines_in (4 + length options) entries
  -- its keys are those that are typed
  pub keys_are : s.keys ≡ keys_in entries

-- ---- both

-- the lines of a session: its version, its store, its machine and its `GO`
pub record AreSessionLines (s : Session) (lines : List (List ℕ)) : Type 0 where
  -- the line of the version
  pub version : List ℕ
  -- the line of the store's size
  pub store : List ℕ
  -- the lines of the machine
  pub machine : List (List ℕ)
  -- the line of the most steps
  pub go : List ℕ
  -- these are all lines
  pub all : lines ≡ version ∷ store ∷ (machine ++ go ∷ [])
  -- the first line has the version
  pub version_line : IsVersionLine s.version version
  -- the second has the store's size, in words
  pub store_line : IsNumberLine (codes "STORE ") s.store store
  -- the version may have a store of that size
  pub store_size : IsTrue (is_store_size s.version s.store)
  -- the next lines are those of a machine of either kind
  pub machine_lines : AreBareLines s machine ⊎ AreClockLines s machine
  -- the last has the most steps
  pub go_line : IsNumberLine (codes "GO ") s.go go
  -- they are a number of steps
  pub steps : IsTrue (is_step s.go)

-- the text is a text of the session
abbrev pub IsSession : List ℕ → Session → Type 0
IsSession text s = AreSessionLines s (lines_of text)
