-- What is decided of a saved machine with a kernel: the words of its store, and the parts beside them.
use Rattle.std.specs.Prelude.{◌≡◌, ◌/◌, ◌≤◌, false, length}
use Rattle.kernel_model.specs.KernelRecord.Between.{AreShut, AreValidFaults, AreValidRegisters, FirstRuns, IsValidConsole, IsValidShell}
use Rattle.kernel_model.specs.KernelRecord.HoldsLists.{HoldsLists}
use Rattle.kernel_model.specs.KernelRecord.Lists.{Lists}
use Rattle.kernel_model.specs.KernelRecord.Pipes.{no_pipes}
use Rattle.kernel_model.specs.KernelRecord.Recovered.{lists_in}
use Rattle.saved_text.specs.declared.images.Image.{Image}
use Rattle.saved_machine.specs.MachineImage.Parts.{console_of, disc_with, placed_pipes, shell_of}

-- the lists that are read off its store
abbrev pub lists_of : Image → Lists
lists_of x = lists_in x.store

-- The store holds the words of valid lists, and the version, the clock, the registers and the steps are as these lists have it.
pub record IsValidStore (x : Image) : Type 0 where
  -- the lists
  pub lists : HoldsLists x.store (lists_of x)
  -- the version is the one that the store tells
  pub version : (lists_of x).version ≡ x.version
  -- and so is the period
  pub period : (lists_of x).period ≡ x.period
  -- the ticks are the whole periods so far
  pub ticks : (lists_of x).tick ≡ x.step / (lists_of x).period
  -- the first ready task runs
  pub running : FirstRuns (lists_of x)
  -- the registers
  pub registers : AreValidRegisters (lists_of x) x.regs
  -- the fault packet
  pub faults : AreValidFaults (lists_of x)

-- What residents keep is as the lists have it, but for what is a disc, and what are pipes.
pub record ResidentsKeep (x : Image) : Type 0 where
  -- the console's line
  pub console : IsValidConsole (lists_of x) (console_of x)
  -- what the shell does, and its line
  pub shell : IsValidShell (lists_of x) (shell_of x) (disc_with x.files x.streams)
  -- without residents no stream is open
  pub shut : (lists_of x).residents ≡ false → AreShut (disc_with x.files x.streams).streams
  -- without residents there is no pipe
  pub pipes : (lists_of x).residents ≡ false → placed_pipes x.pipes ≡ no_pipes
  -- in version 1 there is none
  pub first_version : (lists_of x).version ≡ 1 → placed_pipes x.pipes ≡ no_pipes
  -- at most 128 bytes are typed ahead
  pub ahead : length x.ring ≤ 128
