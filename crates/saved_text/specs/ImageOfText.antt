-- A saved machine read line by line, or the first line in error.
use Rattle.std.specs.Prelude.{ℕ, ◌≡◌, ◌+◌, ◌==◌, ◌&&◌, not, true, false, if◌then◌else◌, Bool, List, [], ◌∷◌, ◌++◌, Option, Some, None, Result, Ok, Err, codes, length, nat_lt, replicate, slice_set}
use Rattle.std.specs.Option.{ok_or}
use Rattle.std.specs.Str.{bytes_eq}
use Rattle.ram_disc.specs.Name.{is_name}
use Rattle.module_text.specs.TextReader.Fields.{number_line}
use Rattle.module_text.specs.TextReader.Lines.{lines_of}
use Rattle.module_text.specs.TextReader.Refusal.{Refusal, refusal}
use Rattle.module_text.specs.TextReader.Steps.{◌>>=◌}
use Rattle.kernel_model.specs.KernelRecord.Ranges.{is_period, is_store_size}
use Rattle.session_text.specs.Ranges.{is_step}
use Rattle.saved_text.specs.SavedLines.Heads.{console_of, regs_line, ring_of, shell_of}
use Rattle.saved_text.specs.SavedLines.HexText.{bytes_of}
use Rattle.saved_text.specs.SavedLines.Statements.{Statement, File, Bytes, Stream, Pipe, Key, Word, Go, statement_of}
use Rattle.saved_text.specs.Files.{is_behind, takes_bytes, with_bytes}
use Rattle.saved_text.specs.Places.{has_files, has_go, has_keys, pipe_floor, stream_floor, word_floor}
use Rattle.saved_text.specs.Ranges.{mode_of, pipe_of, stream_of}
use Rattle.saved_text.specs.declared.drafts.Draft.{Draft}
use Rattle.saved_text.specs.declared.drafts.Place.{Place}
use Rattle.saved_text.specs.declared.drafts.Place.TheVariants.{Version as AtVersion, Store as AtStore, Machine as AtMachine, Step as AtStep, Regs as AtRegs, Ring as AtRing, Console as AtConsole, Shell as AtShell, File as AtFile, Stream as AtStream, Pipe as AtPipe, Key as AtKey, Word as AtWord, End as AtEnd}
use Rattle.saved_text.specs.declared.images.Image.{Image}
use Rattle.saved_text.specs.declared.images.Mode.{Mode}
use Rattle.saved_text.specs.declared.images.Mode.TheVariants.{Prompt}

-- an image as far as it was read, and what may come next
abbrev pub draft : Place → Image → Draft
draft place x = record { place = place; image = x }

-- nothing was read
abbrev pub first_draft : Draft
first_draft = draft AtVersion (record {
  version = 0;
  bare = false;
  store = [];
  period = 0;
  step = 0;
  regs = record { a = 0; b = 0; c = 0; p = 0; g = 0; pc = 0 };
  ring = [];
  finished = false;
  line = [];
  mode = Prompt;
  command = [];
  files = [];
  streams = [];
  pipes = [];
  keys = [];
  go = 0;
})

-- ---- the lines that each machine has

-- the version
abbrev pub version_line : ℕ → List ℕ → Result ℕ Refusal
version_line n line =
    if bytes_eq line (codes "TRIPOS-IMAGE 1") then Ok 1 else
    if bytes_eq line (codes "TRIPOS-IMAGE 2") then Ok 2 else
    Err (refusal n 1)

-- the first line says the version, and the store's line comes next
abbrev pub version_step : Image → ℕ → List ℕ → Result Draft Refusal
version_step x n line = do
  version ← version_line n line
  Ok (draft AtStore (record x { version = version }))

-- the store, all of whose words are 0 until their lines come
abbrev pub store_step : Image → ℕ → List ℕ → Result Draft Refusal
store_step x n line = do
  words ← number_line (codes "STORE ") (is_store_size x.version) n line
  Ok (draft AtMachine (record x { store = replicate words 0 }))

-- a clock with its period
abbrev pub tick_step : Image → ℕ → List ℕ → Result Draft Refusal
tick_step x n line = do
  period ← number_line (codes "TICK ") is_period n line
  Ok (draft AtStep (record x { period = period }))

-- `BARE`, or a clock
abbrev pub machine_step : Image → ℕ → List ℕ → Result Draft Refusal
machine_step x n line =
    if bytes_eq line (codes "BARE") then Ok (draft AtStep (record x { bare = true })) else tick_step x n line

-- the steps taken
abbrev pub step_step : Image → ℕ → List ℕ → Result Draft Refusal
step_step x n line = do
  step ← number_line (codes "STEP ") is_step n line
  Ok (draft AtRegs (record x { step = step }))

-- what comes after the registers: on a bare machine its words, else the type-ahead
abbrev pub place_after_regs : Bool → Place
place_after_regs bare = if bare then AtWord 0 else AtRing

-- the line of registers is read
abbrev pub regs_step : Image → ℕ → List ℕ → Result Draft Refusal
regs_step x n line = do
  regs ← regs_line n line
  Ok (draft (place_after_regs x.bare) (record x { regs = regs }))

-- ---- the lines of a machine with a kernel

-- the type-ahead
abbrev pub ring_line : ℕ → List ℕ → Result (List ℕ) Refusal
ring_line n line = do
  digits ← ok_or (ring_of line) (refusal n 1)
  Ok (bytes_of digits)

-- the line of the type-ahead is read, and the console's comes next
abbrev pub ring_step : Image → ℕ → List ℕ → Result Draft Refusal
ring_step x n line = do
  ring ← ring_line n line
  Ok (draft AtConsole (record x { ring = ring }))

-- the console's line, finished or not
abbrev pub flag_of : ℕ → Option Bool
flag_of d = if d == 0 then Some false else if d == 1 then Some true else None

-- whether the console's line is finished, and its bytes
abbrev pub console_line : ℕ → List ℕ → Result (Bool × List ℕ) Refusal
console_line n line = do
  console ← ok_or (console_of line) (refusal n 1)
  finished ← ok_or (flag_of console.0) (refusal n 2)
  Ok (finished, bytes_of console.1)

-- the line of the console is read, and the shell's comes next
abbrev pub console_step : Image → ℕ → List ℕ → Result Draft Refusal
console_step x n line = do
  console ← console_line n line
  Ok (draft AtShell (record x { finished = console.0; line = console.1 }))

-- the shell's mode and line
abbrev pub shell_line : ℕ → List ℕ → Result (Mode × List ℕ) Refusal
shell_line n line = do
  shell ← ok_or (shell_of line) (refusal n 1)
  mode ← ok_or (mode_of shell.0 shell.1) (refusal n 2)
  Ok (mode, bytes_of shell.2)

-- the line of the shell is read, and files may come next
abbrev pub shell_step : Image → ℕ → List ℕ → Result Draft Refusal
shell_step x n line = do
  shell ← shell_line n line
  Ok (draft AtFile (record x { mode = shell.0; command = shell.1 }))

-- ---- statements

-- a file, which comes after the others
abbrev pub file_step : Place → Image → ℕ → List ℕ → Result Draft Refusal
file_step p x n name =
    if not (has_files p && is_behind x.files name) then Err (refusal n 1) else
    if is_name name then Ok (draft AtFile (record x { files = x.files ++ record { name = name; bytes = [] } ∷ [] })) else
    Err (refusal n 2)

-- more bytes of the last file
abbrev pub bytes_step : Place → Image → ℕ → List ℕ → Result Draft Refusal
bytes_step p x n bytes =
    if has_files p && takes_bytes x.files then Ok (draft AtFile (record x { files = with_bytes x.files bytes })) else
    Err (refusal n 1)

-- a stream, whose number is above that of the last one
abbrev pub stream_step : Place → Image → ℕ → ℕ → ℕ → ℕ → List ℕ → Result Draft Refusal
stream_step p x n k m position name = do
  floor ← ok_or (stream_floor p) (refusal n 1)
  if nat_lt k floor then Err (refusal n 1) else (do
    stream ← ok_or (stream_of k m position name) (refusal n 2)
    Ok (draft (AtStream (k + 1)) (record x { streams = x.streams ++ stream ∷ [] })))

-- a pipe, likewise
abbrev pub pipe_step : Place → Image → ℕ → ℕ → ℕ → ℕ → ℕ → List ℕ → List ℕ → Result Draft Refusal
pipe_step p x n k r w e name held = do
  floor ← ok_or (pipe_floor p) (refusal n 1)
  if nat_lt k floor then Err (refusal n 1) else (do
    pipe ← ok_or (pipe_of k r w e name held) (refusal n 2)
    Ok (draft (AtPipe (k + 1)) (record x { pipes = x.pipes ++ pipe ∷ [] })))

-- a key
abbrev pub key_step : Place → Image → ℕ → ℕ → ℕ → Result Draft Refusal
key_step p x n step byte =
    if not (has_keys p) then Err (refusal n 1) else
    if is_step step then Ok (draft AtKey (record x { keys = x.keys ++ (step, byte) ∷ [] })) else
    Err (refusal n 2)

-- a word that is not 0, whose address is above that of the last one
abbrev pub word_step : Place → Image → ℕ → ℕ → ℕ → Result Draft Refusal
word_step p x n a w = do
  floor ← ok_or (word_floor p) (refusal n 1)
  if nat_lt a floor then Err (refusal n 1) else (
      if nat_lt a (length x.store) && not (w == 0)
      then Ok (draft (AtWord (a + 1)) (record x { store = slice_set x.store a w }))
      else Err (refusal n 2))

-- the steps that the machine is to take
abbrev pub go_step : Place → Image → ℕ → ℕ → Result Draft Refusal
go_step p x n go =
    if not (has_go p) then Err (refusal n 1) else
    if is_step (x.step + go) then Ok (draft AtEnd (record x { go = go })) else
    Err (refusal n 2)

-- a statement is read where its place allows it
abbrev pub statement_step : Place → Image → ℕ → Statement → Result Draft Refusal
statement_step p x n (File name) = file_step p x n name
statement_step p x n (Bytes bytes) = bytes_step p x n bytes
statement_step p x n (Stream k m position name) = stream_step p x n k m position name
statement_step p x n (Pipe k r w e name held) = pipe_step p x n k r w e name held
statement_step p x n (Key step byte) = key_step p x n step byte
statement_step p x n (Word a w) = word_step p x n a w
statement_step p x n (Go go) = go_step p x n go

-- a line that states something is read
abbrev pub entry_step : Place → Image → ℕ → List ℕ → Result Draft Refusal
entry_step p x n line = do
  statement ← ok_or (statement_of line) (refusal n 1)
  statement_step p x n statement

-- ---- all lines

-- line n, by what may come there
abbrev pub step_at : Place → Image → ℕ → List ℕ → Result Draft Refusal
step_at AtVersion x n line = version_step x n line
step_at AtStore x n line = store_step x n line
step_at AtMachine x n line = machine_step x n line
step_at AtStep x n line = step_step x n line
step_at AtRegs x n line = regs_step x n line
step_at AtRing x n line = ring_step x n line
step_at AtConsole x n line = console_step x n line
step_at AtShell x n line = shell_step x n line
step_at p x n line = entry_step p x n line

-- line n is read, and says what may come next, or is the first in error
unfoldable pub step : Draft → ℕ → List ℕ → Result Draft Refusal
step d n line = step_at d.place d.image n line

-- the image, once its `GO` was read; line n would be the next
abbrev pub ended : Place → Image → ℕ → Result Image Refusal
ended AtEnd x n = Ok x
ended _ x n = Err (refusal n 3)

-- the image, from line n on
abbrev pub read_on : Draft → ℕ → List (List ℕ) → Result Image Refusal
read_on d n [] = ended d.place d.image n
read_on d n (line ∷ lines) = do
  next ← step d n line
  read_on next (n + 1) lines

-- the image of all the lines
abbrev pub image_of_lines : List (List ℕ) → Result Image Refusal
image_of_lines lines = read_on first_draft 1 lines

-- the image of a text
abbrev pub image_of : List ℕ → Result Image Refusal
image_of text = image_of_lines (lines_of text)

-- the text is refused at line n with this code
abbrev pub IsRefused : List ℕ → ℕ → ℕ → Type 0
IsRefused text n code = image_of text ≡ Err (refusal n code)
