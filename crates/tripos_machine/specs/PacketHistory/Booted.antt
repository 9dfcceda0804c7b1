-- The history of a boot and of the steps after it.
use Rattle.std.specs.Prelude.{◌≡◌, ℕ, List, [], ◌++◌}
use Rattle.kernel_machine.specs.KernelSteps.Step.{boot_events, run}
use Rattle.kernel_machine.specs.KernelSteps.Stepped.{Stepped}
use Rattle.tripos_machine.specs.EventHistory.Ledger.{Ledger, Timed}
use Rattle.tripos_machine.specs.EventHistory.QueueHistory.{QueueHistory}
use Rattle.tripos_machine.specs.PacketHistory.Queues.{ledger_of, timed_by}
use Rattle.tripos_machine.specs.PacketHistory.HistoryLaw.{HistoryLaw}
use Rattle.tripos_machine.specs.PacketHistory.Steps.{history}

-- no queue has a packet
abbrev pub no_packets : Ledger
no_packets = λ q. []

-- the events of a boot, in which no packet comes to the clock
abbrev pub boot_history : Stepped → List Timed
boot_history x = timed_by (λ e. 0) x.events

-- what holds of a boot, and of n steps from the kernel that it leaves
pub record BootHistory (n : ℕ) (x : Stepped) : Type 0 where
  -- all events lead from no packets to the queues after the steps
  pub queues : QueueHistory no_packets (boot_history x ++ history n x.kernel) (ledger_of (run n x.kernel).kernel.lists)
  -- those of the boot are these
  pub booted : x.events ≡ boot_events x.kernel
  -- and those of the steps are so
  pub steps : HistoryLaw n x.kernel
