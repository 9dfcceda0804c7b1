-- What the events of a machine say of its packets.
use Rattle.std.specs.Prelude.{◌≡◌, ℕ, List, []}
use Rattle.tripos_machine.specs.PacketHistory.Booted.{BootHistory}
use Rattle.kernel_lists.specs.declared.packet_queue.events.KernelEvent.{KernelEvent}
use Rattle.tripos_machine.specs.PacketHistory.HistoryLaw.{HistoryLaw}
use Rattle.tripos_machine.specs.State.{State}
use Rattle.tripos_machine.specs.State.State.{Bare, Full}
use Rattle.tripos_machine.specs.Step.{Stepped}

-- The events of its next n steps are a history of its packets. A machine without a kernel has no packets.
abbrev pub HasHistory : ℕ → State → Type 0
HasHistory n (Bare m) = Unit {0}
HasHistory n (Full k) = HistoryLaw n k

-- these events before the first step, and those of the next n steps, are a history that begins with no packet
abbrev pub BeginsHistory : ℕ → List KernelEvent → State → Type 0
BeginsHistory n before (Bare m) = before ≡ []
BeginsHistory n before (Full k) = BootHistory n (record { kernel = k; bytes = []; events = before })

-- so is what a boot leaves
abbrev pub HasBootHistory : ℕ → Stepped → Type 0
HasBootHistory n x = BeginsHistory n x.events x.state
