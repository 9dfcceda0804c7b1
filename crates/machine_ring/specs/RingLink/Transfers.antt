-- All that can happen between the two ends. What was once sent is kept for good, and any of it may come, at any time,
-- again, in another order, or never: so the link may lose, repeat and reorder.
use Rattle.std.specs.Prelude.{◌≡◌, ℕ, Bool, if◌then◌else◌, Option, Some, None, List, [], ◌∷◌, ◌++◌, drop, slice_get}
use Rattle.machine_ring.specs.RingLink.Receivers.{count_after, is_taken}
use Rattle.machine_ring.specs.RingLink.Senders.{Sender, is_new_count, new_sender, sender_after_count, sender_after_turn, sent_in_turn}

-- the two ends, and all that went from one to the other
pub record Transfer : Type 0 where
  -- all bytes that were offered
  pub offered : List ℕ
  -- those of them that are not acknowledged, the outstanding one first
  pub waiting : List ℕ
  -- the end that sends
  pub sender : Sender
  -- how many bytes the other end took
  pub received : ℕ
  -- these bytes
  pub delivered : List ℕ
  -- all data that was sent, each byte after its number, the latest first
  pub sent : List (ℕ × ℕ)
  -- all acknowledgements that were sent, the latest first
  pub acknowledgements : List ℕ

-- nothing has happened
abbrev pub new_transfer : Transfer
new_transfer =
    record { offered = []; waiting = []; sender = new_sender; received = 0; delivered = []; sent = []; acknowledgements = [] }

-- A byte is offered. The sender has a turn with some wait, in which it sends a byte, sends it again, or sends
-- nothing. Of all data that was sent the one in this place comes, and there is room for it or not. Of all
-- acknowledgements the one in this place comes.
pub data Event : Type 0 where
  Offer : ℕ → Event
  Turn : ℕ → Event
  Data : ℕ → Bool → Event
  Acknowledgement : ℕ → Event

-- ---- each event

-- data with what was sent in a turn
abbrev pub sent_after : Option (ℕ × ℕ) → List (ℕ × ℕ) → List (ℕ × ℕ)
sent_after None sent = sent
sent_after (Some numbered) sent = numbered ∷ sent

-- data comes: the receiver takes it or not, and sends its count
abbrev pub after_data : Transfer → Bool → Option (ℕ × ℕ) → Transfer
after_data t room None = t
after_data t room (Some numbered) = record t {
  received = count_after t.received numbered.0 room;
  delivered = if is_taken t.received numbered.0 room then t.delivered ++ numbered.1 ∷ [] else t.delivered;
  acknowledgements = count_after t.received numbered.0 room ∷ t.acknowledgements;
}

-- an acknowledgement comes: after a new one the first byte waits no longer
abbrev pub after_acknowledgement : Transfer → Option ℕ → Transfer
after_acknowledgement t None = t
after_acknowledgement t (Some count) = record t {
  sender = sender_after_count t.sender count;
  waiting = if is_new_count t.sender count then drop 1 t.waiting else t.waiting;
}

-- what each event makes of a transfer
abbrev pub after_event : Transfer → Event → Transfer
after_event t (Offer byte) = record t { offered = t.offered ++ byte ∷ []; waiting = t.waiting ++ byte ∷ [] }
after_event t (Turn wait) = record t {
  sender = sender_after_turn t.sender (slice_get t.waiting 0) wait;
  sent = sent_after (sent_in_turn t.sender (slice_get t.waiting 0) wait) t.sent;
}
after_event t (Data place room) = after_data t room (slice_get t.sent place)
after_event t (Acknowledgement place) = after_acknowledgement t (slice_get t.acknowledgements place)

-- ---- all of them

-- what some events make of a transfer, one after another
abbrev pub after_events : Transfer → List Event → Transfer
after_events t [] = t
after_events t (event ∷ events) = after_events (after_event t event) events

-- from the beginning
abbrev pub transfer_after : List Event → Transfer
transfer_after events = after_events new_transfer events

-- the bytes begin with these
abbrev pub IsPrefix : List ℕ → List ℕ → Type 0
IsPrefix front whole = (rest : List ℕ) × (front ++ rest ≡ whole)
