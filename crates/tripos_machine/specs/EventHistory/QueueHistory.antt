-- What the events say of the queues, from those at the start to those at the end.
use Rattle.std.specs.Prelude.{◌≡◌, ℕ, ℤ, ◌==◌, false, not, if◌then◌else◌, List, ◌∷◌, ◌++◌, filter, length, map}
use Rattle.std.specs.List.{AllByRecursion, count_by}
use Rattle.tripos_machine.specs.EventHistory.Acceptances.{Acceptance, HasEnd, accepted_on, end_of, has_later_events, is_dequeued, is_open, is_repeated, leaves, pair_of, taken_from}
use Rattle.tripos_machine.specs.EventHistory.Ledger.{AreOnce, Entry, Ledger, NeverFall, Timed, clock, events_of, same_queue}

-- ---- which acceptances

-- the acceptances without an end
abbrev pub open_ones : List Acceptance → List Acceptance
open_ones xs = filter (λ x. is_open (end_of x)) xs

-- the acceptances whose packets were not dequeued
abbrev pub not_dequeued : List Acceptance → List Acceptance
not_dequeued xs = filter (λ x. not (is_dequeued (end_of x))) xs

-- their packets with the senders
abbrev pub pairs_of : List Acceptance → List (ℕ × ℤ)
pairs_of xs = map (λ x. pair_of x.entry) xs

-- what they put on the queue
abbrev pub entries_of : List Acceptance → List Entry
entries_of xs = map (λ x. x.entry) xs

-- ---- which entries

-- the entries that are due at a tick
abbrev pub due_at : ℕ → List Entry → List Entry
due_at tick es = filter (λ e. e.due == tick) es

-- the entries of a packet
abbrev pub of_packet : ℕ → List Entry → List Entry
of_packet p es = filter (λ e. p == e.packet) es

-- ---- the law

-- how an acceptance on the queue ends, if it does
pub record IsEnded (q : ℤ) (x : Acceptance) : Type 0 where
  -- its packet is not accepted again before its end
  pub once : is_repeated x ≡ false
  -- its end names the queue, and the sender
  pub end : HasEnd q x.entry (end_of x)

-- From the queues at the start, b, the events lead to the queues a.
pub record QueueHistory (b : Ledger) (xs : List Timed) (a : Ledger) : Type 0 where
  -- how each acceptance ends
  pub ends : (q : ℤ) → AllByRecursion (IsEnded q) (accepted_on q b xs)
  -- each event that takes or dequeues a packet is the end of exactly one acceptance, which is on its queue
  pub ended : (front : List Timed) (x : Timed) (back : List Timed) → xs ≡ front ++ x ∷ back
      → (q : ℤ) → count_by (has_later_events (length back)) (accepted_on q b xs) ≡ (if leaves q x.event then 1 else 0)
  -- the packets that are queued at the end are exactly those of the acceptances without an end, each on its queue
  pub left : (q : ℤ) (p : ℕ) → map pair_of (of_packet p (a q)) ≡ map pair_of (of_packet p (entries_of (open_ones (accepted_on q b xs))))
  -- and there once
  pub once : AreOnce a
  -- those taken, and after them those still queued, are the accepted ones in order, without those that were dequeued
  pub order : (q : ℤ) → same_queue q clock ≡ false
      → taken_from q (events_of xs) ++ map pair_of (a q) ≡ pairs_of (not_dequeued (accepted_on q b xs))
  -- at the clock those that are due at one tick are in the order in which they were accepted
  pub due : (tick : ℕ) → map pair_of (due_at tick (a clock)) ≡ map pair_of (due_at tick (entries_of (open_ones (accepted_on clock b xs))))
  -- and due ticks never fall
  pub falls : NeverFall (a clock)
