-- The canonical text of a saved machine.
use Rattle.std.specs.Prelude.{ℕ, ◌+◌, ◌-◌, ◌<◌, ◌^◌, Bool, true, false, IsTrue, List, [], ◌∷◌, ◌++◌, length, map, take, codes, decimal}
use Rattle.std.specs.List.{AllByRecursion}
use Rattle.hex.specs.Hex.{IsBytes}
use Rattle.module_text.specs.TextReader.Lines.{lines_of, text_of_lines}
use Rattle.kernel_model.specs.KernelRecord.Ranges.{IsVersion, is_period, is_store_size}
use Rattle.session_text.specs.Ranges.{is_step}
use Rattle.saved_text.specs.SavedLines.Canonical.{printed_console, printed_regs, printed_ring, printed_shell, statement_text}
use Rattle.saved_text.specs.SavedLines.Heads.{are_regs}
use Rattle.saved_text.specs.SavedLines.Statements.{Go}
use Rattle.saved_text.specs.ImageForm.{AreEntries, IsBare, awaited, flag, mode_number, statements_of}
use Rattle.saved_text.specs.declared.images.Image.{Image}

-- ---- which saved machines have a text

-- a bare machine has no kernel, and another one has a clock
abbrev pub IsLawfulMachine : Bool → Image → Type 0
IsLawfulMachine true x = IsBare x
IsLawfulMachine false x = IsTrue (is_period x.period)

-- the fields are within the rules of the text
pub record IsLawful (x : Image) : Type 0 where
  -- the version is 1 or 2
  pub version : IsVersion x.version
  -- its version may have a store of so many words
  pub size : IsTrue (is_store_size x.version (length x.store))
  -- what it says of the clock
  pub machine : IsLawfulMachine x.bare x
  -- the steps taken, with those to come, are a number of steps
  pub steps : IsTrue (is_step (x.step + x.go))
  -- the registers are words, and C a byte
  pub regs : IsTrue (are_regs x.regs.a x.regs.b x.regs.c x.regs.p x.regs.g x.regs.pc)
  -- the type-ahead and the lines are bytes
  pub lines : IsBytes x.ring × IsBytes x.line × IsBytes x.command
  -- the number of a task is a word
  pub waits : awaited x.mode < 2 ^ 32
  -- files, streams, pipes and keys are in their order and ranges
  pub entries : AreEntries x
  -- the bytes of files are bytes
  pub files : AllByRecursion (λ f. IsBytes f.bytes) x.files
  -- so are those that pipes hold
  pub pipes : AllByRecursion (λ p. IsBytes p.held) x.pipes
  -- each key is a byte
  pub keys : AllByRecursion (λ key. key.1 < 256) x.keys
  -- the words are words
  pub words : AllByRecursion (λ w. w < 2 ^ 32) x.store

-- ---- the lines of the text

-- the third line
abbrev pub machine_text : Bool → ℕ → List ℕ
machine_text true period = codes "BARE"
machine_text false period = codes "TICK " ++ decimal period

-- the lines of the type-ahead, the console and the shell, where there is a kernel
abbrev pub kernel_text : Bool → Image → List (List ℕ)
kernel_text true x = []
kernel_text false x =
    printed_ring x.ring ∷ printed_console (flag x.finished) x.line
    ∷ printed_shell (mode_number x.mode) (awaited x.mode) x.command ∷ []

-- the lines of a saved machine: no number has a leading zero
abbrev pub canonical_lines : Image → List (List ℕ)
canonical_lines x =
    (codes "TRIPOS-IMAGE " ++ decimal x.version) ∷ (codes "STORE " ++ decimal (length x.store)) ∷ machine_text x.bare x.period
    ∷ (codes "STEP " ++ decimal x.step) ∷ printed_regs x.regs
    ∷ (kernel_text x.bare x ++ map statement_text (statements_of x ++ Go x.go ∷ []))

-- the one canonical text of an image: these lines, each of them ended by LF
unfoldable pub canonical : Image → List ℕ
canonical x = text_of_lines (canonical_lines x)

-- ---- other steps

-- all lines but the last
abbrev pub front_of : List (List ℕ) → List (List ℕ)
front_of lines = take (length lines - 1) lines

-- a text with these steps in its last line
abbrev pub with_steps : ℕ → List ℕ → List ℕ
with_steps n text = text_of_lines (front_of (lines_of text) ++ (codes "GO " ++ decimal n) ∷ [])
