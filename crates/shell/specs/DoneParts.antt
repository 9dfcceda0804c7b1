-- What is done in the code of the parts of a turn.
use Rattle.std.specs.Prelude.{◌≡◌, ℕ, Bool, false, List, ◌++◌}
use Rattle.kernel_model.specs.KernelRecord.Kernel.{Shell}
use Rattle.kernel_model.specs.KernelRecord.NotedEvents.{NotesAll}
use Rattle.ram_disc.specs.Disc.{Disc}
use Rattle.kernel_calls.specs.CallAnswers.Outside.{Outside}
use Rattle.resident_tasks.specs.ResidentRequests.Requests.{RunsResident}
use Rattle.shell.specs.ShellPrograms.ShellPacket.{HasPacket}
use Rattle.shell.specs.ShellPrograms.StoresWithLists.{RepresentsStoreWithLists}
use Rattle.kernel_model.specs.declared.kernel_record.numbers.TheConstants.{SHELL}
use Rattle.shell.specs.TurnParts.{ShellTurn}

-- How a turn of the shell begins.
pub record ShellStart : Type 0 where
  -- the console bytes and the log
  pub outside : Outside
  -- for how many words of a store the keeper of kinds has room
  pub room : ℕ

-- So much is done since then: the store has these words, the keeper knows the words of its lists, and the rest is as the code has it.
-- The shell still runs.
pub record IsDone (b : ShellStart) (t : List ℕ) (tells : List ℕ → Type 0) (most : ℕ) (now : Outside) (sh : Shell) (d : Disc) (ends : Bool) (x : ShellTurn) : Type 0 where
  -- the store is as the parts leave it, and the keeper knows its words
  pub represents : RepresentsStoreWithLists t tells most x.store
  -- the keeper has room for as many words as before
  pub room : most ≡ b.room
  -- the bytes went to the console
  pub bytes : now.shown ≡ b.outside.shown ++ x.bytes
  -- the events went to the log
  pub notes : NotesAll b.outside.noted now.noted b.outside.failed now.failed x.events
  -- the shell's mode and line
  pub shell : sh ≡ x.shell
  -- the disc
  pub disc : d ≡ x.disc
  -- whether the machine stops
  pub finished : ends ≡ x.finished
  -- a resident runs
  pub runs : RunsResident x.store.lists
  -- it is the shell
  pub is : x.store.lists.running ≡ SHELL

-- and it has its packet, and has not finished the machine
pub record IsReady (b : ShellStart) (t : List ℕ) (tells : List ℕ → Type 0) (most : ℕ) (now : Outside) (sh : Shell) (d : Disc) (x : ShellTurn) : Type 0 where
  -- so much is done, and the machine goes on
  pub done : IsDone b t tells most now sh d false x
  -- the shell has its packet
  pub packet : HasPacket x.store.lists

-- what a whole turn has left, and whether the machine is finished
pub record IsShellTurn (t : List ℕ) (tells : List ℕ → Type 0) (most : ℕ) (old now : Outside) (sh : Shell) (d : Disc) (ends : Bool) (x : ShellTurn) : Type 0 where
  -- the store is as the turn leaves it, and the keeper knows its words
  pub represents : RepresentsStoreWithLists t tells most x.store
  -- the bytes went to the console
  pub bytes : now.shown ≡ old.shown ++ x.bytes
  -- the events went to the log
  pub notes : NotesAll old.noted now.noted old.failed now.failed x.events
  -- the shell's mode and line
  pub shell : sh ≡ x.shell
  -- the disc
  pub disc : d ≡ x.disc
  -- whether the machine stops
  pub finished : ends ≡ x.finished
