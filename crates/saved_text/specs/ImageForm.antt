-- What the text of a saved machine is, line by line.
use Rattle.std.specs.Prelude.{ℕ, ◌≡◌, ◌+◌, ◌/◌, ◌≤◌, ◌<◌, ◌^◌, ◌==◌, if◌then◌else◌, Bool, true, false, IsTrue, List, [], ◌∷◌, ◌++◌, length, map, codes, decimal}
use Rattle.std.specs.List.{AllByRecursion, flat_map}
use Rattle.std.specs.Simd.{first_chunks}
use Rattle.module_text.specs.TextReader.Fields.{IsNumberLine}
use Rattle.module_text.specs.TextReader.Lines.{lines_of}
use Rattle.ram_disc.specs.Disc.{is_before}
use Rattle.ram_disc.specs.Name.{is_name}
use Rattle.kernel_model.specs.KernelRecord.Ranges.{IsVersion, is_period, is_store_size}
use Rattle.session_text.specs.Ranges.{is_step}
use Rattle.saved_text.specs.SavedLines.Heads.{IsConsoleLine, IsRegsLine, IsRingLine, IsShellLine, are_regs}
use Rattle.saved_text.specs.SavedLines.Statements.{Statement, File, Bytes, Stream, Pipe, Key, Word, Go, States}
use Rattle.saved_text.specs.Ranges.{are_pipe_numbers, are_stream_numbers}
use Rattle.saved_text.specs.declared.images.Image.{Image}
use Rattle.saved_text.specs.declared.images.Mode.{Mode}
use Rattle.saved_text.specs.declared.images.Mode.TheVariants.{Prompt, Reading, Waiting, Typing}
use Rattle.saved_text.specs.declared.images.SavedFile.{SavedFile}
use Rattle.saved_text.specs.declared.images.SavedPipe.{SavedPipe}
use Rattle.saved_text.specs.declared.images.SavedStream.{SavedStream}

-- ---- what the lines after the head state

-- the bytes of a file by lines: 32 a line, and 1 to 32 in the last
abbrev pub byte_lines : List ℕ → List (List ℕ)
byte_lines bytes = first_chunks 32 ((length bytes + 31) / 32) bytes

-- a file: its name, and the lines of its bytes
abbrev pub file_statements : SavedFile → List Statement
file_statements f = File f.name ∷ map (λ bytes. Bytes bytes) (byte_lines f.bytes)

-- 1 where it is so, 0 where it is not
abbrev pub flag : Bool → ℕ
flag b = if b then 1 else 0

-- the statement of an open stream
abbrev pub stream_statement : SavedStream → Statement
stream_statement s = Stream s.k (flag s.writes) s.position s.name

-- the statement of a pipe
abbrev pub pipe_statement : SavedPipe → Statement
pipe_statement p = Pipe p.k (flag p.reading) (flag p.writing) (flag p.written) p.name p.held

-- the statement of a key that is still to come: its step and its byte
abbrev pub key_statement : ℕ × ℕ → Statement
key_statement key = Key key.0 key.1

-- a word that is not 0
abbrev pub word_statement : ℕ → ℕ → List Statement
word_statement a w = if w == 0 then [] else Word a w ∷ []

-- the words that are not 0, from address a on
abbrev pub word_statements : ℕ → List ℕ → List Statement
word_statements a [] = []
word_statements a (w ∷ ws) = word_statement a w ++ word_statements (a + 1) ws

-- what an image states of its files, streams, pipes, keys and words, in this order
abbrev pub statements_of : Image → List Statement
statements_of x =
    flat_map file_statements x.files
    ++ (map stream_statement x.streams ++ (map pipe_statement x.pipes ++ (map key_statement x.keys ++ word_statements 0 x.store)))

-- each line states what is at its place
abbrev pub AreStated : List Statement → List (List ℕ) → Type 0
AreStated [] [] = Unit {0}
AreStated [] (line ∷ lines) = ⊥
AreStated (s ∷ ss) [] = ⊥
AreStated (s ∷ ss) (line ∷ lines) = States s line × AreStated ss lines

-- ---- order and ranges

-- the name of each file is lawful, and comes before that of the next in byte order
abbrev pub AreFiles : List SavedFile → Type 0
AreFiles [] = Unit {0}
AreFiles (f ∷ []) = IsTrue (is_name f.name)
AreFiles (f ∷ g ∷ fs) = IsTrue (is_name f.name) × IsTrue (is_before f.name g.name) × AreFiles (g ∷ fs)

-- the numbers and the name of a stream are in their ranges
abbrev pub IsStream : SavedStream → Type 0
IsStream s = IsTrue (are_stream_numbers s.k (flag s.writes) s.position) × IsTrue (is_name s.name)

-- the numbers rise, from this one on
abbrev pub AreStreams : ℕ → List SavedStream → Type 0
AreStreams floor [] = Unit {0}
AreStreams floor (s ∷ ss) = (floor ≤ s.k) × IsStream s × AreStreams (s.k + 1) ss

-- the numbers and the name of a pipe are in their ranges
abbrev pub IsPipe : SavedPipe → Type 0
IsPipe p = IsTrue (are_pipe_numbers p.k (flag p.reading) (flag p.writing) (flag p.written)) × IsTrue (is_name p.name)

-- likewise
abbrev pub ArePipes : ℕ → List SavedPipe → Type 0
ArePipes floor [] = Unit {0}
ArePipes floor (p ∷ ps) = (floor ≤ p.k) × IsPipe p × ArePipes (p.k + 1) ps

-- files and streams, pipes and keys are in their order and ranges
pub record AreEntries (x : Image) : Type 0 where
  -- the files
  pub files : AreFiles x.files
  -- the streams, from number 1 to 17
  pub streams : AreStreams 0 x.streams
  -- the pipes, from number 1 to 8
  pub pipes : ArePipes 0 x.pipes
  -- each key is due at a step that there may be
  pub keys : AllByRecursion (λ key. IsTrue (is_step key.0)) x.keys

-- ---- the head

-- a bare machine has no clock, and nothing that a kernel has
pub record IsBare (x : Image) : Type 0 where
  -- it has no clock
  pub period : x.period ≡ 0
  -- nothing was typed ahead
  pub ring : x.ring ≡ []
  -- no line of the console is finished
  pub finished : x.finished ≡ false
  -- the console has no line
  pub line : x.line ≡ []
  -- the shell prompts
  pub mode : x.mode ≡ Prompt
  -- the shell has no line
  pub command : x.command ≡ []
  -- there are no files
  pub files : x.files ≡ []
  -- there are no streams
  pub streams : x.streams ≡ []
  -- there are no pipes
  pub pipes : x.pipes ≡ []
  -- no key is to come
  pub keys : x.keys ≡ []

-- the third line: `BARE`, or the period of the clock, in steps
abbrev pub IsMachineLine : Bool → Image → List ℕ → Type 0
IsMachineLine true x line = (line ≡ codes "BARE") × IsBare x
IsMachineLine false x line = IsNumberLine (codes "TICK ") x.period line × IsTrue (is_period x.period)

-- the number of a mode
abbrev pub mode_number : Mode → ℕ
mode_number Prompt = 0
mode_number Reading = 1
mode_number (Waiting id) = 2
mode_number Typing = 3

-- the task that is waited for, else 0
abbrev pub awaited : Mode → ℕ
awaited (Waiting id) = id
awaited _ = 0

-- the lines from the sixth on, where there is a kernel: those of the type-ahead, the console and the shell first
pub record AreKernelLines (x : Image) (lines : List (List ℕ)) : Type 0 where
  -- the line of the type-ahead
  pub ring : List ℕ
  -- the console's line
  pub console : List ℕ
  -- the shell's line
  pub shell : List ℕ
  -- the lines of files, streams, pipes, keys, words and the last line
  pub entries : List (List ℕ)
  -- these are all lines
  pub all : lines ≡ ring ∷ console ∷ shell ∷ entries
  -- the first has the type-ahead
  pub ring_line : IsRingLine x.ring ring
  -- the second has whether the console's line is finished, and its bytes
  pub console_line : IsConsoleLine (flag x.finished) x.line console
  -- the third has the shell's mode, and the bytes of its line
  pub shell_line : IsShellLine (mode_number x.mode) (awaited x.mode) x.command shell
  -- the number of a task is a word
  pub waits : awaited x.mode < 2 ^ 32
  -- the others state all else
  pub entry_lines : AreStated (statements_of x ++ Go x.go ∷ []) entries

-- and on either kind of machine
abbrev pub AreRestLines : Bool → Image → List (List ℕ) → Type 0
AreRestLines true x lines = AreStated (statements_of x ++ Go x.go ∷ []) lines
AreRestLines false x lines = AreKernelLines x lines

-- ---- the text

-- the lines of a saved machine
pub record AreImageLines (x : Image) (lines : List (List ℕ)) : Type 0 where
  -- the line of the version
  pub version : List ℕ
  -- the line of the store's size
  pub store : List ℕ
  -- `BARE`, or the line of the clock
  pub machine : List ℕ
  -- the line of the steps taken
  pub step : List ℕ
  -- the line of the registers
  pub regs : List ℕ
  -- the other lines
  pub rest : List (List ℕ)
  -- these are all lines
  pub all : lines ≡ version ∷ store ∷ machine ∷ step ∷ regs ∷ rest
  -- the first has the version
  pub version_line : IsVersion x.version × (version ≡ codes "TRIPOS-IMAGE " ++ decimal x.version)
  -- the second has the store's size, in words, which the version may have
  pub store_line : IsNumberLine (codes "STORE ") (length x.store) store × IsTrue (is_store_size x.version (length x.store))
  -- the third says which machine it is
  pub machine_line : IsMachineLine x.bare x machine
  -- the fourth has the steps taken, which with those to come are a number of steps
  pub step_line : IsNumberLine (codes "STEP ") x.step step × IsTrue (is_step (x.step + x.go))
  -- the fifth has the registers, which are words, and C a byte
  pub regs_line : IsRegsLine x.regs regs × IsTrue (are_regs x.regs.a x.regs.b x.regs.c x.regs.p x.regs.g x.regs.pc)
  -- the others state all else
  pub rest_lines : AreRestLines x.bare x rest
  -- which is in its order and ranges
  pub entries : AreEntries x

-- the text is a text of the saved machine
abbrev pub IsImage : List ℕ → Image → Type 0
IsImage text x = AreImageLines x (lines_of text)
