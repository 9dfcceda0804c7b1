-- The state of a machine without a kernel.
use Rattle.std.specs.Prelude.{ℕ, ◌≤◌, ◌<◌, IsTrue, List, Option, None, length}
use Rattle.word_store.specs.declared.registers.Regs.{Regs}
use Rattle.kernel_model.specs.KernelRecord.Ranges.{is_store_size, most_steps}
use Rattle.kernel_model.specs.declared.kernel_record.stops.Stop.{Stop}
use Rattle.bare_machine.specs.declared.parts.BareParts.{BareParts}

-- A machine without a kernel, at one moment.
pub record BareState : Type 0 where
  -- the words, from address 0 on; all of them are plain
  pub words : List ℕ
  -- the registers
  pub regs : Regs
  -- the steps taken so far
  pub steps : ℕ
  -- why the machine has stopped, if it has
  pub stop : Option Stop

-- A machine, as contracts see it.
pub record BareView : Type 0 where
  -- its state
  pub state : BareState
  -- the bytes that the steps wrote which were taken last
  pub output : List ℕ

-- the parts, and why the machine has stopped, as a state
abbrev pub bare_state : BareParts → Option Stop → BareState
bare_state p stop = record { words = p.store; regs = p.regs; steps = p.step; stop = stop }

-- the state of a machine that has not stopped
abbrev pub going : List ℕ → Regs → ℕ → BareState
going words regs steps = record { words = words; regs = regs; steps = steps; stop = None }

-- what holds of the parts of every machine
pub record IsSound (p : BareParts) : Type 0 where
  -- C is a byte
  pub byte : p.regs.c < 256
  -- a machine may take so many steps
  pub steps : p.step ≤ most_steps
  -- some version may have a store of so many words, and so may version 2, which may have all that version 1 may
  pub size : IsTrue (is_store_size 2 (length p.store))
