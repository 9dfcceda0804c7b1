-- Queues of packets, by the numbers that events give them, and what an event does to them.
use Rattle.std.specs.Prelude.{◌≡◌, ◌≤◌, ℕ, ℤ, pos, negsuc, ◌==◌, Bool, true, false, if◌then◌else◌, List, [], ◌∷◌, ◌++◌, drop, map, nat_le}
use Rattle.std.specs.List.{AllByRecursion, list_any}
use Rattle.word_store.specs.Count.{times}
use Rattle.kernel_lists.specs.LinkedList.Places.{insert_after, without_first}
use Rattle.kernel_lists.specs.declared.packet_queue.events.KernelEvent.{KernelEvent}
use Rattle.kernel_lists.specs.declared.packet_queue.events.KernelEvent.TheVariants.{Accepted, Taken, Dequeued, Runs}

-- a packet on a queue
pub record Entry : Type 0 where
  -- its address
  pub packet : ℕ
  -- who sent it
  pub sender : ℤ
  -- the tick at which it is due on the clock's queue; on any other 0
  pub due : ℕ

-- the queue of each number
abbrev pub Ledger : Type 0
Ledger = ℤ → List Entry

-- the number of the clock's queue
abbrev pub clock : ℤ
clock = negsuc 0

-- the two numbers are one
abbrev pub same_queue : ℤ → ℤ → Bool
same_queue (pos a) (pos b) = a == b
same_queue (pos a) (negsuc b) = false
same_queue (negsuc a) (pos b) = false
same_queue (negsuc a) (negsuc b) = a == b

-- ---- an event, and when its packet is due

-- an event, and a tick
pub record Timed : Type 0 where
  -- the event
  pub event : KernelEvent
  -- the tick at which its packet is due, if it comes to the clock
  pub due : ℕ

-- the events alone
abbrev pub events_of : List Timed → List KernelEvent
events_of xs = map (λ x. x.event) xs

-- ---- what an event does

-- the queue of a number is another
abbrev pub with_queue : ℤ → List Entry → Ledger → Ledger
with_queue q es b = λ r. if same_queue r q then es else b r

-- on the clock's queue alone a packet has a due tick
abbrev pub entry_on : ℤ → ℕ → ℤ → ℕ → Entry
entry_on q p s due = record { packet = p; sender = s; due = if same_queue q clock then due else 0 }

-- at the clock a packet comes after all that are due no later, and elsewhere at the end
abbrev pub arrived : ℤ → Entry → List Entry → List Entry
arrived q x es = if same_queue q clock then insert_after (λ e. nat_le e.due x.due) x es else es ++ x ∷ []

-- An accepted packet arrives; the first one is taken; and one that is dequeued goes, wherever it is.
abbrev pub after_event : KernelEvent → ℕ → Ledger → Ledger
after_event (Accepted q p s) due b = with_queue q (arrived q (entry_on q p s due) (b q)) b
after_event (Taken q p s) due b = with_queue q (drop 1 (b q)) b
after_event (Dequeued q p) due b = with_queue q (without_first (λ e. p == e.packet) (b q)) b
after_event (Runs t) due b = b

-- ---- which events may come

-- the packet is on the queue
abbrev pub is_on_queue : ℕ → List Entry → Bool
is_on_queue p es = list_any (λ e. p == e.packet) es

-- the packet is on no queue
abbrev pub IsNowhere : ℕ → Ledger → Type 0
IsNowhere p b = (q : ℤ) → is_on_queue p (b q) ≡ false

-- the packet is the first of the queue, from this sender
abbrev pub IsFirst : ℕ → ℤ → List Entry → Type 0
IsFirst p s [] = ⊥
IsFirst p s (e ∷ es) = (e.packet ≡ p) × (e.sender ≡ s)

-- A packet that is accepted was on no queue; one that is taken is the first of its queue, from that sender; and one that is
-- dequeued is on that queue.
abbrev pub May : KernelEvent → Ledger → Type 0
May (Accepted q p s) b = IsNowhere p b
May (Taken q p s) b = IsFirst p s (b q)
May (Dequeued q p) b = is_on_queue p (b q) ≡ true
May (Runs t) b = Unit {0}

-- ---- events one after the other

-- The events lead from the one ledger to the other.
abbrev pub Follows : List Timed → Ledger → Ledger → Type 0
Follows [] b a = b ≡ a
Follows (x ∷ xs) b a = May x.event b × Follows xs (after_event x.event x.due b) a

-- ---- no packet twice

-- how often the packet is on the queue
abbrev pub count_of : ℕ → List Entry → ℕ
count_of p es = times p (map (λ e. e.packet) es)

-- each packet is on one queue at most, and there once
pub record AreOnce (b : Ledger) : Type 0 where
  -- none is twice on a queue
  pub once : (q : ℤ) (p : ℕ) → count_of p (b q) ≤ 1
  -- none is on two queues
  pub one : (q r : ℤ) (p : ℕ) → is_on_queue p (b q) ≡ true → is_on_queue p (b r) ≡ true → q ≡ r

-- due ticks never fall along a queue
abbrev pub NeverFall : List Entry → Type 0
NeverFall [] = Unit {0}
NeverFall (e ∷ es) = AllByRecursion (λ x. e.due ≤ x.due) es × NeverFall es
