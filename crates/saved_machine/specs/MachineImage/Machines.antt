-- The machine that a saved machine's text represents.
use Rattle.std.specs.Prelude.{◌≡◌, ℕ, if◌then◌else◌, Bool, true, false, List, [], length}
use Rattle.store_claims.specs.AdoptionLaw.Adoption.{IsAdopted, StoreRepresentsKernel, kernel_in}
use Rattle.kernel_model.specs.KernelRecord.Lists.{Lists}
use Rattle.kernel_model.specs.KernelRecord.ValidKernel.{IsValid}
use Rattle.kernel_model.specs.WordKinds.ByteMap.{MarksAll}
use Rattle.kernel_model.specs.WordKinds.Keeper.{IsStoreOf}
use Rattle.bare_machine.specs.State.{going}
use Rattle.kernel_machine.specs.declared.running_machine.parts.Parts.{Parts}
use Rattle.tripos_machine.specs.Machine.{MachineView}
use Rattle.tripos_machine.specs.State.{State}
use Rattle.tripos_machine.specs.State.State.{Bare, Full}
use Rattle.saved_text.specs.declared.images.Image.{Image}
use Rattle.saved_machine.specs.declared.machine_image.parts.KeptParts.{KeptParts}
use Rattle.saved_machine.specs.declared.machine_image.parts.MadeParts.{MadeParts}
use Rattle.saved_machine.specs.MachineImage.Parts.{console_of, disc_with, others_of, placed_pipes, shell_of}

-- a bare one has the words, the registers and the steps, and one with a kernel is a valid kernel that is represented by the words and
-- all else; neither has stopped
abbrev pub IsOfKind : Bool → Image → State → Type 0
IsOfKind true x (Bare m) = m ≡ going x.store x.regs x.step
IsOfKind false x (Full k) = IsValid k × StoreRepresentsKernel x.store (others_of x) k
IsOfKind _ x s = ⊥

-- the state is that of the machine that was saved
abbrev pub IsMachineOf : Image → State → Type 0
IsMachineOf x s = IsOfKind x.bare x s

-- there is such a state
abbrev pub HasMachine : Image → Type 0
HasMachine x = (s : State) × IsMachineOf x s

-- the only one that there may be
abbrev pub state_in : Image → State
state_in x = if x.bare then Bare (going x.store x.regs x.step) else Full (kernel_in x.store (others_of x))

-- The machine is the one that was saved, before the steps that it is to take.
pub record IsResumed (x : Image) (m : MachineView) : Type 0 where
  -- its state
  pub state : IsMachineOf x m.state
  -- all keys of its script are still to come
  pub keys : m.keys ≡ x.keys
  -- no byte waits for the console
  pub output : m.output ≡ []

-- What was saved represents a valid kernel, and these are its disc and its pipes.
pub record AreKept (x : Image) (kept : KeptParts) : Type 0 where
  -- the kernel
  pub adopted : IsAdopted x.store (others_of x)
  -- the disc
  pub disc : kept.disc ≡ disc_with x.files x.streams
  -- the pipes
  pub pipes : kept.pipes ≡ placed_pipes x.pipes

-- The kernel's words are marked, and the bytes typed ahead and the script are those that were saved.
pub record AreMade (x : Image) (made : MadeParts) : Type 0 where
  -- the kernel's words are marked, where the store has a kernel
  pub marked : (known : List ℕ) (l : Lists) → IsStoreOf x.store known l → MarksAll made.kinds known
  -- each word has a mark
  pub marks : length made.kinds ≡ length x.store
  -- the bytes that are typed ahead
  pub type_ahead : made.tty ≡ x.ring
  -- all keys are still to come
  pub keys : made.keys ≡ record { keys = x.keys; come = 0 }

-- The parts of a machine with a kernel are those that were saved, and the kernel's words are marked.
pub record AreParts (x : Image) (p : Parts) : Type 0 where
  -- the words
  pub store : p.store ≡ x.store
  -- the kernel's words are marked, where the store has a kernel
  pub marked : (known : List ℕ) (l : Lists) → IsStoreOf x.store known l → MarksAll p.kinds known
  -- each word has a mark
  pub marks : length p.kinds ≡ length x.store
  -- the registers
  pub regs : p.regs ≡ x.regs
  -- the bytes that are typed ahead
  pub type_ahead : p.tty ≡ x.ring
  -- the disc
  pub disc : p.disc ≡ disc_with x.files x.streams
  -- the console's line
  pub console : p.console ≡ console_of x
  -- what the shell does next, and its line
  pub shell : p.shell ≡ shell_of x
  -- the pipes
  pub pipes : p.pipes ≡ placed_pipes x.pipes
  -- all keys are still to come
  pub keys : p.keys ≡ record { keys = x.keys; come = 0 }
  -- the steps taken so far
  pub steps : p.step ≡ x.step
  -- the steps from one tick to the next
  pub period : p.period ≡ x.period
