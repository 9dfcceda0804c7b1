-- From whom the packets of a turn are sent.
use Rattle.std.specs.Prelude.{◌≡◌, ℕ, ℤ, pos, Bool, true, false, Option, Some, List, [], ◌∷◌}
use Rattle.kernel_lists.specs.declared.packet_queue.events.KernelEvent.{KernelEvent}
use Rattle.kernel_lists.specs.declared.packet_queue.events.KernelEvent.TheVariants.{Accepted, Taken, Dequeued, Runs}
use Rattle.kernel_calls.specs.PacketCalls.Dqpkt.{pending_number}
use Rattle.tripos_machine.specs.EventHistory.Acceptances.{taken_from}
use Rattle.tripos_machine.specs.EventHistory.Ledger.{clock, same_queue}

-- The packet is from the task whose turn it is. On the queue of reads it is from the sender with which it was just taken from the
-- console's queue.
abbrev pub IsFrom : Bool → ℤ → Option KernelEvent → ℕ → ℤ → Type 0
IsFrom true from before p s = before ≡ Some (Taken (pos 3) p s)
IsFrom false from before p s = s ≡ from

-- an event that accepts a packet, after this one, is of a packet that is so
abbrev pub IsSentBy : ℤ → Option KernelEvent → KernelEvent → Type 0
IsSentBy from before (Accepted q p s) = IsFrom (same_queue q (pos pending_number)) from before p s
IsSentBy from before (Taken q p s) = Unit {0}
IsSentBy from before (Dequeued q p) = Unit {0}
IsSentBy from before (Runs t) = Unit {0}

-- all events are so
abbrev pub AreSentBy : ℤ → Option KernelEvent → List KernelEvent → Type 0
AreSentBy from before [] = Unit {0}
AreSentBy from before (e ∷ es) = IsSentBy from before e × AreSentBy from (Some e) es

-- what the events of a turn say of the task whose turn it is
pub record AreOfTurn (from : ℤ) (es : List KernelEvent) : Type 0 where
  -- whatever came before, what they accept is from the task
  pub sent : (before : Option KernelEvent) → AreSentBy from before es
  -- they take nothing from the clock's queue
  pub takes : taken_from clock es ≡ []
