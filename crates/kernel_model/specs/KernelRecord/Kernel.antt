-- A kernel: its lists, the words that nobody owns, the registers, and what its residents keep outside the store.
use Rattle.std.specs.Prelude.{ℕ, Bool, false, Option, List, []}
use Rattle.word_store.specs.declared.registers.Regs.{Regs}
use Rattle.ram_disc.specs.Disc.{Disc}
use Rattle.kernel_model.specs.declared.kernel_record.stops.Stop.{Stop}
use Rattle.kernel_model.specs.KernelRecord.Lists.{Lists}

-- The console.
pub record Console : Type 0 where
  -- the bytes of the line that is being typed, or that is finished, at most 120
  pub line : List ℕ
  -- whether it is finished, and waits for a read
  pub finished : Bool

-- nothing was typed
abbrev pub no_line : Console
no_line = record { line = []; finished = false }

-- what the shell does next: it prompts, or it has asked for a line, it waits for the task with a number, or it types a file
pub data Mode : Type 0 where
  Prompt : Mode
  Reading : Mode
  Waiting : ℕ → Mode
  Typing : Mode

-- The shell.
pub record Shell : Type 0 where
  -- what it does next
  pub mode : Mode
  -- the bytes of the line that the console has handed over, at most 120
  pub line : List ℕ

-- the shell before it has done anything
abbrev pub no_command : Shell
no_command = record { mode = Prompt; line = [] }

-- A pipe.
pub record Pipe : Type 0 where
  -- the bytes of its name
  pub name : List ℕ
  -- the bytes that were written and not read, the oldest first, at most 1,024
  pub held : List ℕ
  -- whether its end that reads is open
  pub reading : Bool
  -- whether its end that writes is open
  pub writing : Bool
  -- whether that end was ever opened
  pub written : Bool

-- The plain words are in the order of their addresses, and there is none at an address that is owned. The pipes have eight places.
pub record Kernel : Type 0 where
  -- the lists, from which the words that it owns follow
  pub lists : Lists
  -- the word at each address that nobody owns, from address 0 on; none where it is owned
  pub plain : List (Option ℕ)
  -- the registers of the guest that runs; all 0 where none runs
  pub regs : Regs
  -- the steps taken so far
  pub steps : ℕ
  -- the console's line
  pub console : Console
  -- what the shell does next, and its line
  pub shell : Shell
  -- the files, and the streams that are open on them
  pub disc : Disc
  -- the bytes that were typed and met no packet yet, the oldest first, at most 128
  pub type_ahead : List ℕ
  -- the keys that are still to come: each the step at which it is due, and its byte, in the order in which they come
  pub keys : List (ℕ × ℕ)
  -- the pipes, in eight places
  pub pipes : List (Option Pipe)
  -- why it has stopped, if it has
  pub stop : Option Stop
