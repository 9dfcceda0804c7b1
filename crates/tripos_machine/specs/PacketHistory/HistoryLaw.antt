-- The history law: what the events of a run from a kernel say of its queues, of who sent what, of the clock, and of who runs.
use Rattle.std.specs.Prelude.{◌≡◌, ℕ, None}
use Rattle.kernel_model.specs.KernelRecord.Between.{FirstRuns}
use Rattle.kernel_model.specs.KernelRecord.Kernel.{Kernel}
use Rattle.kernel_machine.specs.KernelSteps.Step.{run, step}
use Rattle.tripos_machine.specs.EventHistory.Ledger.{events_of}
use Rattle.tripos_machine.specs.EventHistory.QueueHistory.{QueueHistory}
use Rattle.tripos_machine.specs.PacketHistory.Queues.{ledger_of}
use Rattle.tripos_machine.specs.PacketHistory.Senders.{HoldSenders, Senders, StepHolds, TakesDue}
use Rattle.tripos_machine.specs.PacketHistory.Steps.{EachStep, history}

-- what holds of a step of a kernel that has not stopped
pub record StepLaw (k : Kernel) : Type 0 where
  -- from whom the packets are that it accepts
  pub senders : Senders k
  -- which packets the clock takes
  pub due : TakesDue k
  -- the word 1 of each packet is its sender while it is queued, and when it is taken
  pub words : StepHolds k
  -- after it the first ready task runs, and nobody where none is ready
  pub runs : (step k).kernel.stop ≡ None → FirstRuns (step k).kernel.lists

-- what holds of n steps
pub record HistoryLaw (n : ℕ) (k : Kernel) : Type 0 where
  -- their history has the events of the run
  pub events : events_of (history n k) ≡ (run n k).events
  -- it leads from the queues before to those after
  pub queues : QueueHistory (ledger_of k.lists) (history n k) (ledger_of (run n k).kernel.lists)
  -- and of each step
  pub steps : EachStep (λ j. j.stop ≡ None → StepLaw j) n k
  -- after them too the word 1 of each queued packet is its sender
  pub left : HoldSenders (run n k).kernel
