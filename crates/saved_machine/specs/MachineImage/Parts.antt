-- What a saved machine has besides the words of its store.
use Rattle.std.specs.Prelude.{Option, None, List, map, replicate}
use Rattle.ram_disc.specs.Disc.{Disc, File, IsDisc, Stream, most_streams}
use Rattle.store_claims.specs.AdoptionLaw.OtherParts.{OtherParts}
use Rattle.kernel_model.specs.KernelRecord.Kernel.{Console, Mode, Pipe, Shell}
use Rattle.kernel_model.specs.KernelRecord.Kernel.Mode.{Prompt, Reading, Typing, Waiting}
use Rattle.kernel_model.specs.KernelRecord.Pipes.{most_pipes}
use Rattle.saved_text.specs.declared.images.Image.{Image}
use Rattle.saved_text.specs.declared.images.Mode.{Mode as SavedMode}
use Rattle.saved_text.specs.declared.images.Mode.TheVariants.{Prompt as SavedPrompt, Reading as SavedReading, Typing as SavedTyping, Waiting as SavedWaiting}
use Rattle.saved_text.specs.declared.images.SavedFile.{SavedFile}
use Rattle.saved_text.specs.declared.images.SavedPipe.{SavedPipe}
use Rattle.saved_text.specs.declared.images.SavedStream.{SavedStream}
use Rattle.saved_machine.specs.MachineImage.Placed.{placed}

-- ---- one of each kind

-- the file that a text says
abbrev pub file_of : SavedFile → File
file_of f = record { name = f.name; bytes = f.bytes }

-- the stream that a text says
abbrev pub stream_of : SavedStream → Stream
stream_of s = record { name = s.name; position = s.position; writes = s.writes }

-- the pipe that a text says
abbrev pub pipe_of : SavedPipe → Pipe
pipe_of p = record { name = p.name; held = p.held; reading = p.reading; writing = p.writing; written = p.written }

-- the mode of the shell that a text says
abbrev pub mode_of : SavedMode → Mode
mode_of SavedPrompt = Prompt
mode_of SavedReading = Reading
mode_of (SavedWaiting id) = Waiting id
mode_of SavedTyping = Typing

-- ---- all of them

-- the streams from 1 on, each of them open or not
abbrev pub placed_streams : List SavedStream → List (Option Stream)
placed_streams streams = placed (λ s. s.k) stream_of most_streams streams

-- the pipes in their places, of which the first is that of pipe 1
abbrev pub placed_pipes : List SavedPipe → List (Option Pipe)
placed_pipes pipes = placed (λ p. p.k) pipe_of most_pipes pipes

-- a disc with these files, on which no stream is open
abbrev pub disc_of_files : List SavedFile → Disc
disc_of_files files = record { files = map file_of files; streams = replicate most_streams None }

-- a disc with these open streams in place of its own
abbrev pub with_streams : Disc → List SavedStream → Disc
with_streams d streams = record d { streams = placed_streams streams }

-- a disc with these files and these open streams
abbrev pub disc_with : List SavedFile → List SavedStream → Disc
disc_with files streams = record { files = map file_of files; streams = placed_streams streams }

-- the console's line, finished or not
abbrev pub console_of : Image → Console
console_of x = record { line = x.line; finished = x.finished }

-- the shell's mode and line
abbrev pub shell_of : Image → Shell
shell_of x = record { mode = mode_of x.mode; line = x.command }

-- no valid disc has these files, whatever streams are open on them
abbrev pub HaveNoDisc : List SavedFile → Type 0
HaveNoDisc files = (streams : List (Option Stream)) → IsDisc (record { files = map file_of files; streams = streams }) → ⊥

-- what a machine has besides its words, if it is the one that was saved
abbrev pub others_of : Image → OtherParts
others_of x = record {
  version = x.version;
  period = x.period;
  regs = x.regs;
  steps = x.step;
  console = console_of x;
  shell = shell_of x;
  disc = disc_with x.files x.streams;
  type_ahead = x.ring;
  keys = x.keys;
  pipes = placed_pipes x.pipes;
}
