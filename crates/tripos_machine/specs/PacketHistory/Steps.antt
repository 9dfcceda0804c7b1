-- The events of steps, with the ticks at which packets are due, and what holds of each step of a run.
use Rattle.std.specs.Prelude.{ℕ, zero, suc, ◌+◌, List, [], ◌++◌, slice_index}
use Rattle.kernel_lists.specs.declared.packet_queue.events.KernelEvent.{KernelEvent}
use Rattle.kernel_lists.specs.declared.packet_queue.events.KernelEvent.TheVariants.{Accepted, Taken, Dequeued, Runs}
use Rattle.kernel_model.specs.KernelRecord.Image.{image}
use Rattle.kernel_model.specs.KernelRecord.Kernel.{Kernel}
use Rattle.kernel_calls.specs.PacketCalls.QueueWords.{due_tick}
use Rattle.kernel_machine.specs.KernelSteps.Step.{step}
use Rattle.tripos_machine.specs.EventHistory.Ledger.{Timed}
use Rattle.tripos_machine.specs.PacketHistory.Queues.{Moves, timed_by}

-- A packet that is accepted in a step from k is due so many ticks after those of k as its word 5 says there, which is 0 outside the
-- store; at the last tick at most.
abbrev pub due_in : Kernel → KernelEvent → ℕ
due_in k (Accepted q p s) = due_tick k.lists.tick (slice_index (image k) (p + 5))
due_in k (Taken q p s) = 0
due_in k (Dequeued q p) = 0
due_in k (Runs t) = 0

-- the events of a step, so timed
abbrev pub timed_step : Kernel → List Timed
timed_step k = timed_by (due_in k) (step k).events

-- the events of n steps, each with the tick at which its packet is due
abbrev pub history : ℕ → Kernel → List Timed
history zero k = []
history (suc n) k = timed_step k ++ history n (step k).kernel

-- P holds before each of n steps
abbrev pub EachStep : (Kernel → Type 0) → ℕ → Kernel → Type 0
EachStep P zero k = Unit {0}
EachStep P (suc n) k = P k × EachStep P n (step k).kernel

-- the step's events lead from the queues before it to those after it
abbrev pub StepMoves : Kernel → Type 0
StepMoves k = Moves (due_in k) k.lists (step k).events (step k).kernel.lists
