-- Acceptances of packets, and the end of each.
use Rattle.std.specs.Prelude.{◌≡◌, ℕ, ℤ, suc, ◌==◌, Bool, true, false, if◌then◌else◌, Option, Some, None, List, [], ◌∷◌, ◌++◌, find, length, map}
use Rattle.std.specs.List.{list_any}
use Rattle.kernel_lists.specs.declared.packet_queue.events.KernelEvent.{KernelEvent}
use Rattle.kernel_lists.specs.declared.packet_queue.events.KernelEvent.TheVariants.{Accepted, Taken, Dequeued, Runs}
use Rattle.tripos_machine.specs.EventHistory.Ledger.{Entry, Ledger, Timed, entry_on, events_of, same_queue}

-- ---- the end of an acceptance

-- the event takes or dequeues the packet
abbrev pub is_end : ℕ → KernelEvent → Bool
is_end p (Accepted q r s) = false
is_end p (Taken q r s) = r == p
is_end p (Dequeued q r) = r == p
is_end p (Runs t) = false

-- the event accepts it
abbrev pub accepts : ℕ → KernelEvent → Bool
accepts p (Accepted q r s) = r == p
accepts p (Taken q r s) = false
accepts p (Dequeued q r) = false
accepts p (Runs t) = false

-- the events before the packet's end: all, where it has none
abbrev pub before_end : ℕ → List KernelEvent → List KernelEvent
before_end p [] = []
before_end p (e ∷ es) = if is_end p e then [] else e ∷ before_end p es

-- the events from the packet's end on
abbrev pub from_end : ℕ → List KernelEvent → List KernelEvent
from_end p [] = []
from_end p (e ∷ es) = if is_end p e then e ∷ es else from_end p es

-- A packet comes to a queue, or is there at the start.
pub record Acceptance : Type 0 where
  -- the packet, its sender, and at the clock when it is due
  pub entry : Entry
  -- the events after it
  pub later : List KernelEvent

-- an acceptance of a packet that is there before these events
abbrev pub at_start : List KernelEvent → Entry → Acceptance
at_start later e = record { entry = e; later = later }

-- the end of an acceptance: the first later event that takes or dequeues its packet
abbrev pub end_of : Acceptance → Option KernelEvent
end_of x = find (is_end x.entry.packet) x.later

-- whether the packet of an acceptance is accepted again before its end
abbrev pub is_repeated : Acceptance → Bool
is_repeated x = list_any (accepts x.entry.packet) (before_end x.entry.packet x.later)

-- whether so many events come after the end of an acceptance
abbrev pub has_later_events : ℕ → Acceptance → Bool
has_later_events n x = length (from_end x.entry.packet x.later) == suc n

-- an end is on the same queue, and where the packet is taken it is from the same sender
abbrev pub IsEnd : ℤ → Entry → KernelEvent → Type 0
IsEnd q e (Accepted r p s) = ⊥
IsEnd q e (Taken r p s) = (r ≡ q) × (s ≡ e.sender)
IsEnd q e (Dequeued r p) = r ≡ q
IsEnd q e (Runs t) = ⊥

-- there is none, or such a one
abbrev pub HasEnd : ℤ → Entry → Option KernelEvent → Type 0
HasEnd q e None = Unit {0}
HasEnd q e (Some end) = IsEnd q e end

-- ---- the acceptances of a queue

-- an event that accepts a packet on the queue
abbrev pub accepted_by : ℤ → KernelEvent → ℕ → List KernelEvent → List Acceptance
accepted_by q (Accepted r p s) due later = if same_queue r q then record { entry = entry_on r p s due; later = later } ∷ [] else []
accepted_by q (Taken r p s) due later = []
accepted_by q (Dequeued r p) due later = []
accepted_by q (Runs t) due later = []

-- the acceptances on a queue, of all events, in order
abbrev pub accepted_in : ℤ → List Timed → List Acceptance
accepted_in q [] = []
accepted_in q (x ∷ xs) = accepted_by q x.event x.due (events_of xs) ++ accepted_in q xs

-- first those that are there at the start, in the order of the queue, and then those of the events
abbrev pub accepted_on : ℤ → Ledger → List Timed → List Acceptance
accepted_on q b xs = map (at_start (events_of xs)) (b q) ++ accepted_in q xs

-- ---- pairs

-- a packet and its sender
abbrev pub pair_of : Entry → ℕ × ℤ
pair_of e = (e.packet, e.sender)

-- the one that the event takes from the queue
abbrev pub taken_by : ℤ → KernelEvent → List (ℕ × ℤ)
taken_by q (Accepted r p s) = []
taken_by q (Taken r p s) = if same_queue r q then (p, s) ∷ [] else []
taken_by q (Dequeued r p) = []
taken_by q (Runs t) = []

-- the packets that the events take from a queue, in order
abbrev pub taken_from : ℤ → List KernelEvent → List (ℕ × ℤ)
taken_from q [] = []
taken_from q (e ∷ es) = taken_by q e ++ taken_from q es

-- the event takes a packet from the queue, or dequeues one there
abbrev pub leaves : ℤ → KernelEvent → Bool
leaves q (Accepted r p s) = false
leaves q (Taken r p s) = same_queue r q
leaves q (Dequeued r p) = same_queue r q
leaves q (Runs t) = false

-- ---- how an acceptance ended

-- whether an acceptance has no end
abbrev pub is_open : Option KernelEvent → Bool
is_open None = true
is_open (Some e) = false

-- whether an end dequeues the packet
abbrev pub is_dequeue : KernelEvent → Bool
is_dequeue (Accepted q p s) = false
is_dequeue (Taken q p s) = false
is_dequeue (Dequeued q p) = true
is_dequeue (Runs t) = false

-- whether an acceptance has an end by which its packet was dequeued
abbrev pub is_dequeued : Option KernelEvent → Bool
is_dequeued None = false
is_dequeued (Some e) = is_dequeue e
