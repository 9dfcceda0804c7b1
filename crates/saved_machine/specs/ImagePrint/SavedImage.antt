-- What the text of a machine says: its state, and the steps that it is to take.
use Rattle.std.specs.Prelude.{ℕ, ◌+◌, true, false, Option, List, [], ◌∷◌, ◌++◌, map}
use Rattle.std.specs.Option.{option_map, option_to_list}
use Rattle.ram_disc.specs.Disc.{File, Stream}
use Rattle.bare_machine.specs.State.{BareState}
use Rattle.kernel_model.specs.KernelRecord.Image.{image}
use Rattle.kernel_model.specs.KernelRecord.Kernel.{Kernel, Mode as KernelMode, Pipe}
use Rattle.kernel_model.specs.KernelRecord.Kernel.Mode.{Prompt as KernelPrompt, Reading as KernelReading, Typing as KernelTyping, Waiting as KernelWaiting}
use Rattle.tripos_machine.specs.State.{State}
use Rattle.tripos_machine.specs.State.State.{Bare, Full}
use Rattle.saved_text.specs.declared.images.Image.{Image}
use Rattle.saved_text.specs.declared.images.Mode.{Mode}
use Rattle.saved_text.specs.declared.images.Mode.TheVariants.{Prompt, Reading, Typing, Waiting}
use Rattle.saved_text.specs.declared.images.SavedFile.{SavedFile}
use Rattle.saved_text.specs.declared.images.SavedPipe.{SavedPipe}
use Rattle.saved_text.specs.declared.images.SavedStream.{SavedStream}

-- ---- its parts, in the words of a text

-- a file, as a text has it
abbrev pub saved_file : File → SavedFile
saved_file f = record { name = f.name; bytes = f.bytes }

-- stream k, as a text has it
abbrev pub saved_stream : ℕ → Stream → SavedStream
saved_stream k s = record { k = k; writes = s.writes; position = s.position; name = s.name }

-- pipe k, as a text has it
abbrev pub saved_pipe : ℕ → Pipe → SavedPipe
saved_pipe k p = record { k = k; reading = p.reading; writing = p.writing; written = p.written; name = p.name; held = p.held }

-- the mode of the shell, as a text has it
abbrev pub saved_mode : KernelMode → Mode
saved_mode KernelPrompt = Prompt
saved_mode KernelReading = Reading
saved_mode (KernelWaiting id) = Waiting id
saved_mode KernelTyping = Typing

-- what is at a place, if something does, with the number of the place
abbrev pub at_place : {A B : Type 0} → (ℕ → A → B) → ℕ → Option A → List B
at_place f k x = option_to_list (option_map (f k) x)

-- what is at the places of a list, each with the number of its place, of which the first is k
abbrev pub with_places : {A B : Type 0} → (ℕ → A → B) → ℕ → List (Option A) → List B
with_places f k [] = []
with_places f k (x ∷ xs) = at_place f k x ++ with_places f (k + 1) xs

-- the streams that are open, with their numbers from 1 on
abbrev pub numbered_streams : List (Option Stream) → List SavedStream
numbered_streams ss = with_places saved_stream 1 ss

-- the pipes that are there, with their numbers from 1 on
abbrev pub numbered_pipes : List (Option Pipe) → List SavedPipe
numbered_pipes ps = with_places saved_pipe 1 ps

-- ---- the whole

-- a machine without a kernel, of this version, with so many steps to go
abbrev pub saved_bare : ℕ → BareState → ℕ → Image
saved_bare version m go = record {
  version = version;
  bare = true;
  store = m.words;
  period = 0;
  step = m.steps;
  regs = m.regs;
  ring = [];
  finished = false;
  line = [];
  mode = Prompt;
  command = [];
  files = [];
  streams = [];
  pipes = [];
  keys = [];
  go = go;
}

-- a machine with a kernel, which knows its version
abbrev pub saved_kernel : Kernel → ℕ → Image
saved_kernel k go = record {
  version = k.lists.version;
  bare = false;
  store = image k;
  period = k.lists.period;
  step = k.steps;
  regs = k.regs;
  ring = k.type_ahead;
  finished = k.console.finished;
  line = k.console.line;
  mode = saved_mode k.shell.mode;
  command = k.shell.line;
  files = map saved_file k.disc.files;
  streams = numbered_streams k.disc.streams;
  pipes = numbered_pipes k.pipes;
  keys = k.keys;
  go = go;
}

-- What the text of a machine in this state says, with so many steps to go. A machine without a kernel does not know its version,
-- so that is told; one with a kernel is of its own version, whatever is told.
abbrev pub saved_image : ℕ → State → ℕ → Image
saved_image version (Bare m) go = saved_bare version m go
saved_image version (Full k) go = saved_kernel k go
