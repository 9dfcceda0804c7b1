-- A turn of the shell, of which some parts are done.
use Rattle.std.specs.Prelude.{ℕ, Bool, false, List, [], ◌++◌}
use Rattle.kernel_lists.specs.declared.packet_queue.events.KernelEvent.{KernelEvent}
use Rattle.kernel_model.specs.KernelRecord.Kernel.{Mode, Shell}
use Rattle.kernel_model.specs.KernelRecord.Lists.{Lists}
use Rattle.ram_disc.specs.Disc.{Disc}
use Rattle.kernel_calls.specs.CallAnswers.CallChange.{CallChange}
use Rattle.kernel_model.specs.KernelRecord.StoreWithLists.{StoreWithLists, left_with, store_with_lists}

-- How far a turn of the shell has come: the store as it is now, the events and the bytes so far as in a ResidentTurn, and what the
-- shell keeps.
pub record ShellTurn : Type 0 where
  -- the words of the store and its lists
  pub store : StoreWithLists
  -- the events so far, in their order
  pub events : List KernelEvent
  -- the bytes that went to the console so far
  pub bytes : List ℕ
  -- what the shell does next, and its line
  pub shell : Shell
  -- the disc
  pub disc : Disc
  -- whether the shell has finished the machine
  pub finished : Bool

-- nothing is done yet
abbrev pub begun : List ℕ → Lists → Shell → Disc → ShellTurn
begun words l sh d = record { store = store_with_lists words l; shell = sh; disc = d; bytes = []; events = []; finished = false }

-- bytes go to the console
abbrev pub shown : List ℕ → ShellTurn → ShellTurn
shown bytes x = record x { bytes = x.bytes ++ bytes }

-- the shell does this next
abbrev pub in_mode : Mode → ShellTurn → ShellTurn
in_mode m x = record x { shell = record x.shell { mode = m } }

-- the disc is another
abbrev pub with_disc : Disc → ShellTurn → ShellTurn
with_disc d x = record x { disc = d }

-- a part more leaves this of the store, and has these events
abbrev pub and_then : StoreWithLists → List KernelEvent → ShellTurn → ShellTurn
and_then k events x = record x { store = k; events = x.events ++ events }

-- a call makes this of the lists
abbrev pub called : CallChange → ShellTurn → ShellTurn
called m x = and_then (left_with x.store.words m.lists m.plain) m.events x

-- a turn writes at most so many bytes: a list of tasks, and a prompt
abbrev pub most_shown : ℕ
most_shown = 2500
