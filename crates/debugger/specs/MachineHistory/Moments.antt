-- The state of a machine, read off what is kept of it.
use Rattle.std.specs.Prelude.{ℕ, ◌≡◌, ◌≤◌, Option, Some, None, List, drop, length, map}
use Rattle.debugger.specs.UndoJournal.Journals.{Past}
use Rattle.kernel_model.specs.KernelRecord.Image.{HasPlainWords, IsImage, plain_words}
use Rattle.kernel_model.specs.KernelRecord.Kernel.{Kernel}
use Rattle.kernel_model.specs.KernelRecord.Recovered.{lists_in}
use Rattle.kernel_machine.specs.declared.running_machine.parts.Parts.{Parts}
use Rattle.tripos_machine.specs.State.{IsSound, State, steps_of, stop_of, words_of}
use Rattle.tripos_machine.specs.State.State.{Bare, Full}
use Rattle.debugger.specs.MachineHistory.FilesBefore.{files_at}
use Rattle.debugger.specs.MachineHistory.Pasts.{Files, files_of}
use Rattle.debugger.specs.declared.machine_history.files.KeptFiles.{KeptFiles}
use Rattle.debugger.specs.declared.machine_history.moments.KernelMoment.{KernelMoment}
use Rattle.debugger.specs.declared.machine_history.moments.Moment.{Moment}
use Rattle.debugger.specs.declared.machine_history.moments.Moment.TheVariants.{Bare as BareKind, Full as FullKind}

-- the kernel whose lists these words hold, with these files, of a machine with these keys
unfoldable pub kernel_in : List (ℕ × ℕ) → List ℕ → Files → KernelMoment → Kernel
kernel_in keys words files m = record {
  lists = lists_in words;
  plain = plain_words words (lists_in words);
  regs = m.regs;
  steps = m.step;
  console = m.console;
  shell = m.shell;
  disc = files.disc;
  type_ahead = m.type_ahead.items;
  keys = drop m.come keys;
  pipes = files.pipes;
  stop = None;
}

-- the steps that were taken at a moment
abbrev pub number : Moment → ℕ
number (BareKind m) = m.step
number (FullKind m) = m.step

-- the state at a moment, from the keys of the session, the words of the store, the files and what was kept
abbrev pub state_in : List (ℕ × ℕ) → List ℕ → Files → Moment → State
state_in keys words files (BareKind m) = Bare (record { words = words; regs = m.regs; steps = m.step; stop = None })
state_in keys words files (FullKind m) = Full (kernel_in keys words files m)

-- the state that a member of a journal keeps
abbrev pub read : List (ℕ × ℕ) → List KeptFiles → Past Moment → State
read keys fs p = state_in keys p.words (files_at (number p.side) fs) p.side

-- the states that the members of a journal keep, the oldest first
abbrev pub states : List (ℕ × ℕ) → List KeptFiles → List (Past Moment) → List State
states keys fs ps = map (read keys fs) ps

-- ---- moments and the parts of a machine

-- the moment has what the parts have
pub record IsTakenFrom (p : Parts) (m : KernelMoment) : Type 0 where
  -- the registers
  pub regs : m.regs ≡ p.regs
  -- the steps
  pub step : m.step ≡ p.step
  -- the bytes that are typed ahead
  pub type_ahead : m.type_ahead.items ≡ p.tty
  -- the console's line
  pub console : m.console ≡ p.console
  -- what the shell does next
  pub shell : m.shell ≡ p.shell
  -- how many keys have come
  pub come : m.come ≡ p.keys.come
  -- all at most
  pub few : m.come ≤ length p.keys.keys
  -- the period
  pub period : m.period ≡ p.period

-- these are the files that are kept, where any are
abbrev pub AreFiles : Files → Option Files → Type 0
AreFiles f None = Unit {0}
AreFiles f (Some g) = f ≡ g

-- what a kernel has beside its words
pub record HoldsKernel (keys : List (ℕ × ℕ)) (words : List ℕ) (m : KernelMoment) (k : Kernel) : Type 0 where
  -- the words are its image
  pub image : IsImage words k
  -- its plain words are those that nobody owns
  pub plain : HasPlainWords k
  -- the period
  pub period : m.period ≡ k.lists.period
  -- no more keys have come than there are
  pub come : m.come ≤ length keys

-- the words and the moment are of one kind with the state, and its own
abbrev pub HoldsState : List (ℕ × ℕ) → List ℕ → Moment → State → Type 0
HoldsState keys words (BareKind m) (Bare s) = Unit {0}
HoldsState keys words (FullKind m) (Full k) = HoldsKernel keys words m k
HoldsState keys words _ _ = ⊥

-- the moment is that of a state, which is one between steps, of a machine with these keys
pub record IsMomentOf (keys : List (ℕ × ℕ)) (m : Moment) (s : State) : Type 0 where
  -- the steps
  pub steps : number m ≡ steps_of s
  -- the state is read off the moment, its words and its files
  pub reads : stop_of s ≡ None → (f : Files) → AreFiles f (files_of s) → state_in keys (words_of s) f m ≡ s
  -- they hold it
  pub holds : HoldsState keys (words_of s) m s
  -- it is one between steps
  pub sound : IsSound s

-- the parts with what they had at the moment
abbrev pub with_moment : KernelMoment → Parts → Parts
with_moment m p = record p { regs = m.regs; step = m.step; tty = m.type_ahead.items; console = m.console; shell = m.shell; keys = record p.keys { come = m.come }; period = m.period }
