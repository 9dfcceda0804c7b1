-- What a machine with a kernel has besides the words of its store.
use Rattle.std.specs.Prelude.{ℕ, Option, List}
use Rattle.word_store.specs.declared.registers.Regs.{Regs}
use Rattle.ram_disc.specs.Disc.{Disc}
use Rattle.kernel_model.specs.KernelRecord.Kernel.{Console, Pipe, Shell}

-- What a machine that has not stopped tells besides its words.
pub record OtherParts : Type 0 where
  -- the version of the store's layout
  pub version : ℕ
  -- the steps from one tick to the next
  pub period : ℕ
  -- the registers of the guest that runs
  pub regs : Regs
  -- the steps taken so far
  pub steps : ℕ
  -- the console's line
  pub console : Console
  -- what the shell does next, and its line
  pub shell : Shell
  -- the files, and the streams that are open on them
  pub disc : Disc
  -- the bytes that were typed and met no packet yet
  pub type_ahead : List ℕ
  -- the keys that are still to come: each the step at which it is due, and its byte
  pub keys : List (ℕ × ℕ)
  -- the pipes, in their places
  pub pipes : List (Option Pipe)
