-- What a bare session puts into the machine before its first step.
use Rattle.std.specs.Prelude.{ℕ, ◌≡◌, ◌+◌, ◌*◌, List, [], ◌∷◌, length, None, Result, Ok, Err, nat_le, replicate, if◌then◌else◌}
use Rattle.word_store.specs.Bytes.{set_byte_at}
use Rattle.word_store.specs.declared.registers.Regs.{Regs}
use Rattle.module_text.specs.TextReader.Refusal.{Refusal, refusal}
use Rattle.module_text.specs.TextReader.Steps.{◌>>=◌}
use Rattle.session_text.specs.declared.sessions.Session.{Session}
use Rattle.session_text.specs.declared.sessions.SessionLine.{SessionLine}
use Rattle.session_text.specs.declared.sessions.LineForm.{LineForm}
use Rattle.session_text.specs.declared.sessions.LineForm.TheVariants.{Code, File, Task}
use Rattle.session_text.specs.declared.boot_ends.BootEnd.{BootEnd}
use Rattle.session_text.specs.declared.boot_ends.BootEnd.TheVariants.{Line, WantMemory}
use Rattle.bare_machine.specs.State.{BareState}

-- the byte address of the program
abbrev pub program : ℕ
program = 800

-- bytes in the store, from a byte address on
abbrev pub with_bytes : List ℕ → ℕ → List ℕ → List ℕ
with_bytes words a [] = words
with_bytes words a (b ∷ bs) = with_bytes (set_byte_at words a b) (a + 1) bs

-- the bytes of a line of code; other lines have none
abbrev pub code_of : LineForm → List ℕ
code_of (Code bytes) = bytes
code_of (File name bytes) = []
code_of (Task id pri stack names) = []

-- The lines' bytes go into the store one after the other. The line whose bytes pass the store's end is refused with code 1.
abbrev pub with_lines : List ℕ → ℕ → List SessionLine → Result (List ℕ) Refusal
with_lines words a [] = Ok words
with_lines words a (line ∷ lines) =
    if nat_le (a + length (code_of line.form)) (4 * length words) then
    with_lines (with_bytes words a (code_of line.form)) (a + length (code_of line.form)) lines else
    Err (refusal line.line 1)

-- PC is at the program, the stack frame at word 100 and the globals at word 20
abbrev pub first_regs : Regs
first_regs = record { a = 0; b = 0; c = 0; p = 100; g = 20; pc = program }

-- a machine with these words, before its first step
abbrev pub first_state : List ℕ → BareState
first_state words = record { words = words; regs = first_regs; steps = 0; stop = None }

-- all words besides the code are 0
unfoldable pub boot : Session → Result BareState Refusal
boot s = do
  words ← with_lines (replicate s.store 0) program s.lines
  Ok (first_state words)

-- a boot that failed did so as the definition says: it was refused at a line with a code, unless memory ran out
abbrev pub BootEndsAs : {X : Type 0} → BootEnd → Result X Refusal → Type 0
BootEndsAs (Line line code) booted = booted ≡ Err (refusal line code)
BootEndsAs WantMemory booted = Unit {0}

-- what a booting function returned, seen by `view`, is what the definition gives, unless memory ran out
abbrev pub Boots : {X Y : Type 0} → (X → Y) → Result X BootEnd → Result Y Refusal → Type 0
Boots view (Ok x) booted = booted ≡ Ok (view x)
Boots view (Err e) booted = BootEndsAs e booted
