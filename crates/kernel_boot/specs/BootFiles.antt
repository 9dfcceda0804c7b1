-- The files that a session's lines put on the disc.
use Rattle.std.specs.Prelude.{ℕ, ◌≡◌, Bool, true, false, not, Option, Some, None, Result, Ok, Err, List, [], ◌∷◌, length, nat_lt, replicate}
use Rattle.ram_disc.specs.Disc.{Disc, File, has_file, most_files, most_streams}
use Rattle.ram_disc.specs.DiscCalls.{file, has_room, with_bytes, with_file, writer}
use Rattle.session_text.specs.declared.sessions.LineForm.{LineForm}
use Rattle.session_text.specs.declared.sessions.LineForm.TheVariants.{Code, File as FileForm, Task}
use Rattle.session_text.specs.declared.sessions.SessionLine.{SessionLine}
use Rattle.kernel_calls.specs.CallAnswers.Refusals.{first_refusal}
use Rattle.ram_disc.specs.declared.codes.TheConstants.{DIRECTORY_FULL, DISC_FULL, NAME_TAKEN}
use Rattle.kernel_boot.specs.declared.refusals.BootRefusal.{BootRefusal}

-- ---- lines

-- a boot is refused at a line of the session, counted from 1, with a code
abbrev pub boot_refusal : ℕ → ℕ → BootRefusal
boot_refusal line code = record { line = line; code = code }

-- what a line gives, and then what follows with that; a code is one of this line
abbrev pub at_line : {A B : Type 0} → ℕ → Result A ℕ → (A → Result B BootRefusal) → Result B BootRefusal
at_line n (Ok x) next = next x
at_line n (Err code) next = Err (boot_refusal n code)

-- ---- a file

-- no file has the name (code 42), there is room for a file more (44), and the disc has room for the bytes (43)
abbrev pub file_tests : Disc → List ℕ → List ℕ → List (Bool × ℕ)
file_tests d name bytes =
    (not (has_file d name), NAME_TAKEN) ∷ (nat_lt (length d.files) most_files, DIRECTORY_FULL) ∷ (has_room (with_bytes d name bytes), DISC_FULL) ∷ []

-- refused or not, as this says, it makes that of the disc
abbrev pub disc_or_code : Option ℕ → Disc → Result Disc ℕ
disc_or_code None d = Ok d
disc_or_code (Some code) d = Err code

-- the disc, with a file of that name and these bytes more
abbrev pub with_new_file : Disc → List ℕ → List ℕ → Result Disc ℕ
with_new_file d name bytes = disc_or_code (first_refusal (file_tests d name bytes)) (with_bytes d name bytes)

-- ---- the files of all lines

-- what the line puts on the disc: lines that are no files put nothing there
abbrev pub load_form : Disc → LineForm → Result Disc ℕ
load_form d (FileForm name bytes) = with_new_file d name bytes
load_form d (Code bytes) = Ok d
load_form d (Task id pri stack names) = Ok d

-- line after line; the first that is refused ends it
abbrev pub load_files : Disc → List SessionLine → Result Disc BootRefusal
load_files d [] = Ok d
load_files d (line ∷ lines) = at_line line.line (load_form d line.form) (λ e. load_files e lines)

-- ---- what a function answers

-- no stream is open
abbrev pub HasNoStreams : Disc → Type 0
HasNoStreams d = d.streams ≡ replicate most_streams None

-- the disc is this one, or the answer its refusal
abbrev pub IsNewDisc : {E : Type 0} → Disc → Result (Unit {0}) E → Result Disc E → Type 0
IsNewDisc d (Ok u) loaded = loaded ≡ Ok d
IsNewDisc d (Err refusal) loaded = loaded ≡ Err refusal

-- the first stream writes the file of that name, which has these bytes so far and is with these others on the disc
abbrev pub writing : List File → List ℕ → List ℕ → Disc
writing others name bytes =
    record { files = with_file (file name bytes) others; streams = Some (writer name (length bytes)) ∷ replicate 16 None }

-- the disc is this one and has room for it, or has none, which is code 43
abbrev pub IsAppended : Disc → Result (Unit {0}) ℕ → Disc → Type 0
IsAppended d (Ok u) whole = (d ≡ whole) × (has_room whole ≡ true)
IsAppended d (Err code) whole = (code ≡ DISC_FULL) × (has_room whole ≡ false)
