-- The queues of a kernel's lists, by the numbers that events give them.
use Rattle.std.specs.Prelude.{◌≡◌, ℕ, ℤ, zero, suc, pos, negsuc, ◌+◌, ◌==◌, if◌then◌else◌, List, [], map, slice_index}
use Rattle.word_store.specs.Arithmetic.{signed}
use Rattle.kernel_lists.specs.PacketQueue.QueueWords.{QueuedPacket}
use Rattle.kernel_lists.specs.declared.packet_queue.events.KernelEvent.{KernelEvent}
use Rattle.kernel_lists.specs.declared.packet_queue.events.KernelEvent.TheVariants.{Accepted}
use Rattle.kernel_model.specs.KernelRecord.Changes.{work_of}
use Rattle.kernel_model.specs.KernelRecord.Lists.{Lists}
use Rattle.kernel_calls.specs.PacketCalls.Dqpkt.{pending_number}
use Rattle.kernel_calls.specs.PacketCalls.QueueWords.{due_tick}
use Rattle.tripos_machine.specs.EventHistory.Ledger.{Entry, Follows, Ledger, Timed}

-- a packet as an entry
abbrev pub entry_of : QueuedPacket → Entry
entry_of p = record { packet = p.address; sender = signed p.sender; due = 0 }

-- at the clock its last word is the tick at which it is due
abbrev pub clock_entry : QueuedPacket → Entry
clock_entry p = record { packet = p.address; sender = signed p.sender; due = p.last }

-- A task's queue has its number, and one of no task is empty; -1 is the clock, -2 the keyboard, -3 the output, and 103 the reads.
abbrev pub ledger_of : Lists → Ledger
ledger_of l (pos n) = map entry_of (if n == pending_number then l.pending else work_of n l.tasks)
ledger_of l (negsuc zero) = map clock_entry l.clock
ledger_of l (negsuc (suc zero)) = map entry_of l.keyboard
ledger_of l (negsuc (suc (suc zero))) = map entry_of l.output
ledger_of l (negsuc (suc (suc (suc n)))) = []

-- the events, each with the tick at which its packet is due
abbrev pub timed_by : (KernelEvent → ℕ) → List KernelEvent → List Timed
timed_by due es = map (λ e. record { event = e; due = due e }) es

-- The events lead from these lists to those.
abbrev pub Moves : (KernelEvent → ℕ) → Lists → List KernelEvent → Lists → Type 0
Moves due l es m = Follows (timed_by due es) (ledger_of l) (ledger_of m)

-- a packet that is accepted is due as many ticks from now as its word 5 says
abbrev pub IsDueIn : (KernelEvent → ℕ) → List ℕ → Lists → ℕ → Type 0
IsDueIn due s l p = (q : ℤ) (from : ℤ) → due (Accepted q p from) ≡ due_tick l.tick (slice_index s (p + 5))
