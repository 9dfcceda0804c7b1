-- The valid kernel that a store and the other parts of a machine represent.
use Rattle.std.specs.Prelude.{◌≡◌, ◌/◌, ℕ, None, List}
use Rattle.kernel_model.specs.KernelRecord.Between.{AreValidRegisters, AreValidResidents, FirstRuns}
use Rattle.kernel_model.specs.KernelRecord.HoldsLists.{HoldsLists}
use Rattle.kernel_model.specs.KernelRecord.Image.{IsImage, plain_words}
use Rattle.kernel_model.specs.KernelRecord.Kernel.{Kernel}
use Rattle.kernel_model.specs.KernelRecord.Recovered.{lists_in}
use Rattle.kernel_model.specs.KernelRecord.ValidKernel.{HasSteps, IsValid}
use Rattle.store_claims.specs.AdoptionLaw.OtherParts.{OtherParts}

-- The store and the other parts represent the kernel, which has not stopped.
pub record StoreRepresentsKernel (s : List ℕ) (o : OtherParts) (k : Kernel) : Type 0 where
  -- the store is its image
  pub image : IsImage s k
  -- the version of the store's layout
  pub version : k.lists.version ≡ o.version
  -- the steps from one tick to the next
  pub period : k.lists.period ≡ o.period
  -- the registers
  pub regs : k.regs ≡ o.regs
  -- the steps taken so far
  pub steps : k.steps ≡ o.steps
  -- the console's line
  pub console : k.console ≡ o.console
  -- what the shell does next, and its line
  pub shell : k.shell ≡ o.shell
  -- the files, and the open streams
  pub disc : k.disc ≡ o.disc
  -- the bytes that are typed ahead
  pub type_ahead : k.type_ahead ≡ o.type_ahead
  -- the keys that are still to come
  pub keys : k.keys ≡ o.keys
  -- the pipes
  pub pipes : k.pipes ≡ o.pipes
  -- it has not stopped; without this a stopped kernel, whose first ready task need not run, would be represented as well
  pub goes : k.stop ≡ None

-- some valid kernel does
abbrev pub HasKernel : List ℕ → OtherParts → Type 0
HasKernel s o = (k : Kernel) × IsValid k × StoreRepresentsKernel s o k

-- ---- the one that can

-- The kernel that is read off: its lists are those of the store, and its plain words those that the lists do not own.
unfoldable pub kernel_in : List ℕ → OtherParts → Kernel
kernel_in s o = record {
  lists = lists_in s;
  plain = plain_words s (lists_in s);
  regs = o.regs;
  steps = o.steps;
  console = o.console;
  shell = o.shell;
  disc = o.disc;
  type_ahead = o.type_ahead;
  keys = o.keys;
  pipes = o.pipes;
  stop = None;
}

-- The other parts fit the lists of this kernel: the rules between steps hold of it.
pub record OthersFit (o : OtherParts) (k : Kernel) : Type 0 where
  -- the version is the one that the store tells
  pub version : k.lists.version ≡ o.version
  -- and so is the period
  pub period : k.lists.period ≡ o.period
  -- the ticks are the whole periods so far
  pub ticks : k.lists.tick ≡ k.steps / k.lists.period
  -- the first ready task runs
  pub running : FirstRuns k.lists
  -- the registers
  pub registers : AreValidRegisters k.lists k.regs
  -- what residents keep
  pub residents : AreValidResidents k
  -- the steps, and those of keys
  pub steps : HasSteps k

-- The lists that are read off the store are valid, the store holds their words, and the other parts fit them. No kernel is
-- named here but the one that is read off, so this can be decided.
pub record IsAdopted (s : List ℕ) (o : OtherParts) : Type 0 where
  -- the lists
  pub lists : HoldsLists s (lists_in s)
  -- the other parts
  pub others : OthersFit o (kernel_in s o)
