-- The state of a machine of either kind.
use Rattle.std.specs.Prelude.{◌≡◌, ℕ, ◌<◌, ◌≤◌, IsTrue, List, [], Option, length}
use Rattle.word_store.specs.declared.registers.Regs.{Regs}
use Rattle.bare_machine.specs.State.{BareState, bare_state}
use Rattle.kernel_model.specs.KernelRecord.Image.{image}
use Rattle.kernel_model.specs.KernelRecord.Kernel.{Kernel}
use Rattle.kernel_model.specs.KernelRecord.Ranges.{is_store_size, most_steps}
use Rattle.kernel_model.specs.KernelRecord.ValidKernel.{IsValid}
use Rattle.kernel_model.specs.declared.kernel_record.stops.Stop.{Stop}
use Rattle.kernel_machine.specs.RunningMachine.Machine.{with_byte_typed}
use Rattle.kernel_machine.specs.RunningMachine.RepresentedKernels.{RepresentsKernel}
use Rattle.kernel_machine.specs.declared.running_machine.parts.Parts.{Parts as FullParts}
use Rattle.tripos_machine.specs.declared.parts.Parts.{Parts}
use Rattle.tripos_machine.specs.declared.parts.Parts.TheVariants.{Bare as BareMachine, Full as FullMachine}

-- a bare machine has words and registers, and a full one has a kernel
pub data State : Type 0 where
  Bare : BareState → State
  Full : Kernel → State

-- the words of its store, from address 0 on
abbrev pub words_of : State → List ℕ
words_of (Bare m) = m.words
words_of (Full k) = image k

-- its registers: those of the program, or of the task that runs
abbrev pub regs_of : State → Regs
regs_of (Bare m) = m.regs
regs_of (Full k) = k.regs

-- the steps taken so far
abbrev pub steps_of : State → ℕ
steps_of (Bare m) = m.steps
steps_of (Full k) = k.steps

-- the number of the task that runs, 0 where nobody runs; a bare machine has no tasks
abbrev pub running_of : State → ℕ
running_of (Bare m) = 0
running_of (Full k) = k.lists.running

-- the keys that are still to come, each the step at which it is due, and its byte; a bare machine has none
abbrev pub keys_to_come : State → List (ℕ × ℕ)
keys_to_come (Bare m) = []
keys_to_come (Full k) = k.keys

-- why it has stopped, if it has
abbrev pub stop_of : State → Option Stop
stop_of (Bare m) = m.stop
stop_of (Full k) = k.stop

-- a byte is typed ahead, where there is room; a machine without a kernel has no keyboard
abbrev pub typed : ℕ → State → State
typed byte (Bare m) = Bare m
typed byte (Full k) = Full (with_byte_typed byte k)

-- what holds of it at every moment between steps
abbrev pub IsSound : State → Type 0
IsSound (Bare m) = (m.regs.c < 256) × (m.steps ≤ most_steps) × IsTrue (is_store_size 2 (length m.words))
IsSound (Full k) = IsValid k

-- the machine has no kernel
abbrev pub IsBare : State → Type 0
IsBare (Bare m) = Unit {0}
IsBare (Full k) = ⊥

-- the state is that of a machine with a kernel, and these parts represent its kernel
abbrev pub RepresentsFullState : FullParts → State → Type 0
RepresentsFullState p (Bare m) = ⊥
RepresentsFullState p (Full k) = RepresentsKernel p k

-- These parts are those of the state. Whether the machine has stopped is no part of them.
abbrev pub RepresentsState : Parts → State → Type 0
RepresentsState (BareMachine p) (Bare m) = bare_state p m.stop ≡ m
RepresentsState (FullMachine p) (Full k) = RepresentsKernel p k
RepresentsState _ _ = ⊥

-- all keys of its script, those that have come too: each the step at which it is due, and its byte; a bare machine has none
abbrev pub keys_of : Parts → List (ℕ × ℕ)
keys_of (BareMachine p) = []
keys_of (FullMachine p) = p.keys.keys
