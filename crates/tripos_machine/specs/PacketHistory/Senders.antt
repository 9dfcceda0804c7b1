-- From whom packets are accepted, and what a tick takes: what holds of a step's parts.
use Rattle.std.specs.Prelude.{◌≡◌, ℕ, ℤ, negsuc, ◌+◌, ◌==◌, ◌%◌, if◌then◌else◌, is_some, None, List, [], ◌∷◌, ◌++◌, filter, map, nat_le, slice_index}
use Rattle.std.specs.List.{AllByRecursion}
use Rattle.word_store.specs.Arithmetic.{signed}
use Rattle.kernel_lists.specs.PacketQueue.QueueWords.{QueuedPacket}
use Rattle.kernel_lists.specs.declared.packet_queue.events.KernelEvent.{KernelEvent}
use Rattle.kernel_lists.specs.declared.packet_queue.events.KernelEvent.TheVariants.{Accepted, Taken, Dequeued, Runs}
use Rattle.kernel_model.specs.KernelRecord.Changes.{HasPlace, queue_of}
use Rattle.kernel_model.specs.KernelRecord.Image.{image}
use Rattle.kernel_model.specs.KernelRecord.Kernel.{Kernel}
use Rattle.kernel_model.specs.KernelRecord.ValidQueues.{Place}
use Rattle.kernel_machine.specs.KernelSteps.Step.{dispatch, key, output, step, tick, turn, with_step}
use Rattle.kernel_machine.specs.KernelSteps.Stepped.{Stepped}
use Rattle.tripos_machine.specs.EventHistory.Acceptances.{pair_of, taken_from}
use Rattle.tripos_machine.specs.EventHistory.Ledger.{clock}
use Rattle.tripos_machine.specs.PacketHistory.Queues.{clock_entry}
use Rattle.tripos_machine.specs.PacketHistory.SentBy.{AreSentBy}

-- ---- the events of a device

-- one packet after the other is taken by the device and returned to its sender
abbrev pub AreReturns : ℤ → List KernelEvent → Type 0
AreReturns device [] = Unit {0}
AreReturns device (Accepted q p s ∷ es) = ⊥
AreReturns device (Dequeued q p ∷ es) = ⊥
AreReturns device (Runs t ∷ es) = ⊥
AreReturns device (Taken q p s ∷ []) = ⊥
AreReturns device (Taken q p s ∷ Accepted r z t ∷ es) = (q ≡ device) × (z ≡ p) × (r ≡ s) × (t ≡ device) × AreReturns device es
AreReturns device (Taken q p s ∷ Taken r z t ∷ es) = ⊥
AreReturns device (Taken q p s ∷ Dequeued r z ∷ es) = ⊥
AreReturns device (Taken q p s ∷ Runs t ∷ es) = ⊥

-- ---- the events of a dispatch

-- the event accepts no packet
abbrev pub IsNoAcceptance : KernelEvent → Type 0
IsNoAcceptance (Accepted q p s) = ⊥
IsNoAcceptance (Taken q p s) = Unit {0}
IsNoAcceptance (Dequeued q p) = Unit {0}
IsNoAcceptance (Runs t) = Unit {0}

-- ---- a step

-- what the turn leaves
abbrev pub turned : Kernel → Stepped
turned k = turn (with_step k)

-- the clock after it
abbrev pub ticked : Kernel → Stepped
ticked k = tick (turned k).kernel

-- the keyboard
abbrev pub typed : Kernel → Stepped
typed k = key (ticked k).kernel

-- the output
abbrev pub printed : Kernel → Stepped
printed k = output (typed k).kernel

-- the step after its last part, the dispatch
abbrev pub dispatched : Kernel → Stepped
dispatched k = dispatch (printed k).kernel

-- A step's events are those of its turn, and where that did not stop the machine those of the three devices and of the dispatch.
abbrev pub events_of_parts : Kernel → List KernelEvent
events_of_parts k =
    if is_some (turned k).kernel.stop then (turned k).events
    else (turned k).events ++ ((ticked k).events ++ ((typed k).events ++ ((printed k).events ++ (dispatched k).events)))

-- Each packet that is accepted is from the task whose turn it was, or from the device that returns it.
pub record Senders (k : Kernel) : Type 0 where
  -- the events of the step are those of its parts
  pub parts : (step k).events ≡ events_of_parts k
  -- the turn sends from the task whose turn it is
  pub turn : AreSentBy (signed k.lists.running) None (turned k).events
  -- the clock returns packets
  pub clock : AreReturns (negsuc 0) (ticked k).events
  -- and so does the keyboard
  pub keyboard : AreReturns (negsuc 1) (typed k).events
  -- and the output
  pub output : AreReturns (negsuc 2) (printed k).events
  -- the dispatch accepts none
  pub dispatch : AllByRecursion IsNoAcceptance (dispatched k).events

-- ---- the clock

-- packets of the clock's queue, with their senders
abbrev pub pairs_at_clock : List QueuedPacket → List (ℕ × ℤ)
pairs_at_clock ps = map (λ p. pair_of (clock_entry p)) ps

-- those that a step's clock takes, of these on its queue: none in a step that is no tick
abbrev pub due_now : Kernel → List QueuedPacket → List QueuedPacket
due_now k ps = if k.steps % k.lists.period == 0 then filter (λ p. nat_le p.last (k.lists.tick + 1)) ps else []

-- A tick takes exactly the packets that are due at the new tick at most, in the order of the queue, and nothing else takes any.
pub record TakesDue (k : Kernel) : Type 0 where
  -- what the clock takes
  pub takes : taken_from clock (ticked k).events ≡ pairs_at_clock (due_now (turned k).kernel (turned k).kernel.lists.clock)
  -- the turn takes none from its queue
  pub turn : taken_from clock (turned k).events ≡ []
  -- nor does the keyboard
  pub keyboard : taken_from clock (typed k).events ≡ []
  -- nor the output
  pub output : taken_from clock (printed k).events ≡ []
  -- nor the dispatch
  pub dispatch : taken_from clock (dispatched k).events ≡ []

-- ---- word 1

-- each packet that is queued has its sender as its word 1
abbrev pub HoldSenders : Kernel → Type 0
HoldSenders k = (at : Place) → HasPlace k.lists at → AllByRecursion (λ p. slice_index (image k) (p.address + 1) ≡ p.sender) (queue_of at k.lists)

-- a packet that the event takes has its sender as its word 1 in these words
abbrev pub HasSender : List ℕ → KernelEvent → Type 0
HasSender words (Accepted q p s) = Unit {0}
HasSender words (Taken q p s) = signed (slice_index words (p + 1)) ≡ s
HasSender words (Dequeued q p) = Unit {0}
HasSender words (Runs t) = Unit {0}

-- Before a part of a step each packet that is queued has its sender as its word 1, and so has each that the part takes.
pub record PartHolds (k : Kernel) (part : Stepped) : Type 0 where
  -- what is queued
  pub queued : HoldSenders k
  -- what the part takes, from the words before it
  pub taken : AllByRecursion (HasSender (image k)) part.events

-- It is so before each part of the step: so also of a packet that is accepted in one part and taken in a later one.
pub record StepHolds (k : Kernel) : Type 0 where
  -- before the turn
  pub turn : PartHolds k (turned k)
  -- before the clock
  pub clock : PartHolds (turned k).kernel (ticked k)
  -- before the keyboard
  pub keyboard : PartHolds (ticked k).kernel (typed k)
  -- before the output
  pub output : PartHolds (typed k).kernel (printed k)
  -- before the dispatch
  pub dispatch : PartHolds (printed k).kernel (dispatched k)
