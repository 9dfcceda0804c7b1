-- The kernel that the parts of a machine represent.
use Rattle.std.specs.Prelude.{◌≡◌, length}
use Rattle.kernel_model.specs.KernelRecord.ChangedStore.{HasKeeper}
use Rattle.kernel_model.specs.KernelRecord.Image.{HasPlainWords, IsImage}
use Rattle.kernel_model.specs.KernelRecord.Kernel.{Kernel}
use Rattle.kernel_model.specs.WordKinds.ByteMap.{MarksAll}
use Rattle.kernel_machine.specs.RunningMachine.Script.{still_to_come}
use Rattle.kernel_machine.specs.declared.running_machine.parts.Parts.{Parts}

-- The parts represent the kernel: the store is its image, the words that it owns are marked, and all else is the same.
-- Whether the machine has stopped is no part of it.
pub record RepresentsKernel (p : Parts) (k : Kernel) : Type 0 where
  -- the store holds the kernel's lists, and their words are marked
  pub keeper : HasKeeper p.store (MarksAll p.kinds) (length p.kinds) k.lists
  -- each word of the store has a mark
  pub marks : length p.kinds ≡ length p.store
  -- the store is the kernel's image
  pub image : IsImage p.store k
  -- the kernel's plain words are those that nobody owns
  pub plain : HasPlainWords k
  -- the registers
  pub regs : p.regs ≡ k.regs
  -- the bytes that are typed ahead
  pub type_ahead : p.tty ≡ k.type_ahead
  -- the files, and the streams that are open on them
  pub disc : p.disc ≡ k.disc
  -- the console's line
  pub console : p.console ≡ k.console
  -- what the shell does next, and its line
  pub shell : p.shell ≡ k.shell
  -- the pipes
  pub pipes : p.pipes ≡ k.pipes
  -- the keys that are still to come
  pub keys : still_to_come p.keys ≡ k.keys
  -- the steps taken so far
  pub steps : p.step ≡ k.steps
  -- the steps from one tick to the next
  pub period : p.period ≡ k.lists.period
