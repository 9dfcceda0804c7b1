-- What a kernel has besides its lists and the plain words.
use Rattle.std.specs.Prelude.{◌≡◌}
use Rattle.kernel_model.specs.KernelRecord.Kernel.{Kernel}

-- two kernels have the same other parts
pub record HaveSameParts (k j : Kernel) : Type 0 where
  -- the registers
  pub regs : k.regs ≡ j.regs
  -- the steps taken so far
  pub steps : k.steps ≡ j.steps
  -- the console's line
  pub console : k.console ≡ j.console
  -- what the shell does next, and its line
  pub shell : k.shell ≡ j.shell
  -- the files, and the open streams
  pub disc : k.disc ≡ j.disc
  -- the bytes that are typed ahead
  pub type_ahead : k.type_ahead ≡ j.type_ahead
  -- the keys that are still to come
  pub keys : k.keys ≡ j.keys
  -- the pipes
  pub pipes : k.pipes ≡ j.pipes
  -- why the machine has stopped, if it has
  pub stop : k.stop ≡ j.stop
