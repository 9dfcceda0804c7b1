-- How large the numbers of a machine's state are.
use Rattle.std.specs.Prelude.{ℕ, ◌+◌, ◌<◌, ◌^◌, Option, Some, None, IsTrue, length}
use Rattle.std.specs.List.{AllByRecursion}
use Rattle.hex.specs.Hex.{IsBytes}
use Rattle.ram_disc.specs.Disc.{File}
use Rattle.kernel_model.specs.KernelRecord.Ranges.{IsVersion, is_store_size}
use Rattle.session_text.specs.Ranges.{is_step}
use Rattle.word_store.specs.declared.registers.Regs.{Regs}
use Rattle.kernel_model.specs.KernelRecord.Kernel.{Kernel, Pipe}
use Rattle.tripos_machine.specs.State.{State, regs_of, steps_of, words_of}
use Rattle.tripos_machine.specs.State.State.{Bare, Full}

-- all registers but C are words; that C is a byte is a rule of machines
pub record AreWords (r : Regs) : Type 0 where
  -- A and B
  pub values : (r.a < 2 ^ 32) × (r.b < 2 ^ 32)
  -- P, G and PC
  pub addresses : (r.p < 2 ^ 32) × (r.g < 2 ^ 32) × (r.pc < 2 ^ 32)

-- a pipe, where there is one, holds bytes
abbrev pub HoldsBytes : Option Pipe → Type 0
HoldsBytes None = Unit {0}
HoldsBytes (Some p) = IsBytes p.held

-- what a kernel keeps outside the store are bytes
pub record KeepsBytes (k : Kernel) : Type 0 where
  -- the type-ahead
  pub ahead : IsBytes k.type_ahead
  -- the console's line
  pub line : IsBytes k.console.line
  -- the shell's line
  pub command : IsBytes k.shell.line
  -- those of the files
  pub files : AllByRecursion (λ (f : File). IsBytes f.bytes) k.disc.files
  -- those in the pipes
  pub pipes : AllByRecursion HoldsBytes k.pipes
  -- the keys that are still to come
  pub keys : AllByRecursion (λ (key : ℕ × ℕ). key.1 < 256) k.keys

-- a machine without a kernel keeps nothing outside the store
abbrev pub StateKeepsBytes : State → Type 0
StateKeepsBytes (Bare m) = Unit {0}
StateKeepsBytes (Full k) = KeepsBytes k

-- the words of a state are words, and its bytes are bytes, as those of every machine
pub record HasWordsAndBytes (s : State) : Type 0 where
  -- the words of the store
  pub words : AllByRecursion (λ w. w < 2 ^ 32) (words_of s)
  -- the registers
  pub regs : AreWords (regs_of s)
  -- the bytes outside the store
  pub bytes : StateKeepsBytes s

-- a machine without a kernel has a store that the version may have
abbrev pub IsSized : ℕ → State → Type 0
IsSized version (Bare m) = IsVersion version × IsTrue (is_store_size version (length m.words))
IsSized version (Full k) = Unit {0}

-- a machine in this state may take so many steps more
abbrev pub MayTake : State → ℕ → Type 0
MayTake s go = IsTrue (is_step (steps_of s + go))
